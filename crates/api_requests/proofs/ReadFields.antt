-- What is read of one field is valid.
use Rattle.std.proofs.Common.{◌≡◌, ℕ, nat_lt, ◌==◌, ◌^◌, ℤ, pos, negsuc, Bool, true, false, Option, Some, None, Result, Ok, Err, refl, subst, if◌then◌else◌}
use Rattle.serde_json.specs.Data.{Members}
use Rattle.js_base.specs.Bytes.{Bytes}
use Rattle.js_base.specs.Subjects.{is_pattern_text, is_subject_text}
use Rattle.js_base.specs.declared.out.ApiError.{ApiError}
use Rattle.js_json.specs.declared.fault.JsonFault.{JsonFault}
use Rattle.js_json.specs.Fields.{number_in as integer_in}
use Rattle.js_model.specs.Configs.{is_number}
use Rattle.js_model.specs.Proper.{if_given}
use Rattle.api_requests.specs.Fields.{number_told, number_in, unless_0, positive_in, text_in, only, pattern_in, subject_in}
use Rattle.api_requests.proofs.Steps.{after}

-- ---- numbers

small_by : (n : ℕ) (number : Option ℕ) (small : Bool) (refusal : ApiError) → nat_lt n (2 ^ 62) ≡ small → ◌≡◌ {A = Result (Option ℕ) ApiError} (if small then Ok (Some n) else Err refusal) (Ok number)
    → if_given is_number number ≡ true
small_by n number true refusal is e = let same : ◌≡◌ {A = Option ℕ} (Some n) number = cc in subst (λ (m : Option ℕ). if_given is_number m ≡ true) same is
small_by n number false refusal is e = absurd (cc)

number_by : (name : Bytes) (read : Result (Option ℤ) JsonFault) (number : Option ℕ) → number_told name read ≡ Ok number → if_given is_number number ≡ true
number_by name (Ok None) number e = let same : ◌≡◌ {A = Option ℕ} None number = cc in subst (λ (m : Option ℕ). if_given is_number m ≡ true) same refl
number_by name (Ok (Some (pos n))) number e = small_by n number _ _ refl e
number_by name (Ok (Some (negsuc n))) number e = absurd (cc)
number_by name (Err fault) number e = absurd (cc)

pub number_is : (name : Bytes) (fields : Members) (number : Option ℕ) → number_in name fields ≡ Ok number → if_given is_number number ≡ true
unfolding number_in
number_is name fields number e = number_by name (integer_in name fields) number e

still : (number : Option ℕ) → if_given is_number number ≡ true → if_given is_number (unless_0 number) ≡ true
still None h = refl
still (Some n) h = by (n == 0)
  where
    by : (zero : Bool) → if_given is_number (if zero then None else Some n) ≡ true
    by true = refl
    by false = h

pub positive_is : (name : Bytes) (fields : Members) (number : Option ℕ) → positive_in name fields ≡ Ok number → if_given is_number number ≡ true
unfolding positive_in
positive_is name fields number e =
    after _ (number_in name fields) _ number e
    (λ found is made.
    let same : unless_0 found ≡ number = cc in
    subst (λ (m : Option ℕ). if_given is_number m ≡ true) same (still found (number_is name fields found is)))

-- ---- texts

only_by : (is : Bytes → Bool) (text : Bytes) (told : Option Bytes) (good : Bool) (refusal : ApiError) → is text ≡ good
    → ◌≡◌ {A = Result (Option Bytes) ApiError} (if good then Ok (Some text) else Err refusal) (Ok told) → if_given is told ≡ true
only_by is text told true refusal h e = let same : ◌≡◌ {A = Option Bytes} (Some text) told = cc in subst (λ (t : Option Bytes). if_given is t ≡ true) same h
only_by is text told false refusal h e = absurd (cc)

only_is : (is : Bytes → Bool) (name : Bytes) (text told : Option Bytes) → only is name text ≡ Ok told → if_given is told ≡ true
only_is is name None told e = let same : ◌≡◌ {A = Option Bytes} None told = cc in subst (λ (t : Option Bytes). if_given is t ≡ true) same refl
only_is is name (Some text) told e = only_by is text told _ _ refl e

pub pattern_is : (name : Bytes) (fields : Members) (pattern : Option Bytes) → pattern_in name fields ≡ Ok pattern → if_given is_pattern_text pattern ≡ true
unfolding pattern_in
pattern_is name fields pattern e = after _ (text_in name fields) _ pattern e (λ text _ made. only_is is_pattern_text name text pattern made)

pub subject_is : (name : Bytes) (fields : Members) (subject : Option Bytes) → subject_in name fields ≡ Ok subject → if_given is_subject_text subject ≡ true
unfolding subject_in
subject_is name fields subject e = after _ (text_in name fields) _ subject e (λ text _ made. only_is is_subject_text name text subject made)

-- The texts of the refusals of one field are ASCII, if its name is.
use Rattle.std.proofs.Common.{◌≡◌, nat_lt, ◌^◌, ℤ, pos, negsuc, Bool, true, Option, Some, None, Result, Ok, Err}
use Rattle.serde_json.specs.Data.{Members}
use Rattle.js_base.specs.Bytes.{Bytes}
use Rattle.js_base.specs.Subjects.{is_pattern_text, is_subject_text}
use Rattle.js_base.specs.declared.out.ApiError.{ApiError}
use Rattle.js_json.specs.declared.fault.JsonFault.{JsonFault}
use Rattle.js_json.specs.Fields.{number_in as integer_in, text_in as any_text_in, is_given}
use Rattle.api_requests.specs.Fields.{number_told, number_in, positive_in, text_told, text_in, given_told, given_text_in, only, pattern_in, subject_in, nothing_in}
use Rattle.api_requests.proofs.Plain.{is_ascii, Plain, wrong_plain, left_out_plain, told, one_of, chosen, refused_if}

number_by : (name : Bytes) (read : Result (Option ℤ) JsonFault) (refusal : ApiError) → is_ascii name ≡ true → number_told name read ≡ Err refusal → Plain refusal
number_by name (Ok None) refusal h e = absurd (cc)
number_by name (Ok (Some (pos n))) refusal h e = chosen (nat_lt n (2 ^ 62)) (Some n) _ refusal e (wrong_plain name h)
number_by name (Ok (Some (negsuc n))) refusal h e = told _ refusal e (wrong_plain name h)
number_by name (Err fault) refusal h e = told _ refusal e (wrong_plain name h)

pub number_plain : (name : Bytes) (fields : Members) (refusal : ApiError) → is_ascii name ≡ true → number_in name fields ≡ Err refusal → Plain refusal
unfolding number_in
number_plain name fields refusal h e = number_by name (integer_in name fields) refusal h e

pub positive_plain : (name : Bytes) (fields : Members) (refusal : ApiError) → is_ascii name ≡ true → positive_in name fields ≡ Err refusal → Plain refusal
unfolding positive_in
positive_plain name fields refusal h e = one_of (number_in name fields) _ refusal e (number_plain name fields refusal h) (λ number made. absurd (cc))

text_by : (name : Bytes) (read : Result (Option Bytes) JsonFault) (refusal : ApiError) → is_ascii name ≡ true → text_told name read ≡ Err refusal → Plain refusal
text_by name (Ok None) refusal h e = absurd (cc)
text_by name (Ok (Some text)) refusal h e = absurd (cc)
text_by name (Err fault) refusal h e = told _ refusal e (wrong_plain name h)

pub text_plain : (name : Bytes) (fields : Members) (refusal : ApiError) → is_ascii name ≡ true → text_in name fields ≡ Err refusal → Plain refusal
unfolding text_in
text_plain name fields refusal h e = text_by name (any_text_in name fields) refusal h e

given_by : (name : Bytes) (read : Result (Option Bytes) JsonFault) (refusal : ApiError) → is_ascii name ≡ true → given_told name read ≡ Err refusal → Plain refusal
given_by name (Ok text) refusal h e = absurd (cc)
given_by name (Err fault) refusal h e = told _ refusal e (wrong_plain name h)

pub given_plain : (name : Bytes) (fields : Members) (refusal : ApiError) → is_ascii name ≡ true → given_text_in name fields ≡ Err refusal → Plain refusal
unfolding given_text_in
given_plain name fields refusal h e = given_by name (any_text_in name fields) refusal h e

only_plain : (is : Bytes → Bool) (name : Bytes) (text : Option Bytes) (refusal : ApiError) → is_ascii name ≡ true → only is name text ≡ Err refusal → Plain refusal
only_plain is name None refusal h e = absurd (cc)
only_plain is name (Some text) refusal h e = chosen (is text) (Some text) _ refusal e (wrong_plain name h)

pub pattern_plain : (name : Bytes) (fields : Members) (refusal : ApiError) → is_ascii name ≡ true → pattern_in name fields ≡ Err refusal → Plain refusal
unfolding pattern_in
pattern_plain name fields refusal h e =
    one_of (text_in name fields) _ refusal e (text_plain name fields refusal h) (λ text made. only_plain is_pattern_text name text refusal h made)

pub subject_plain : (name : Bytes) (fields : Members) (refusal : ApiError) → is_ascii name ≡ true → subject_in name fields ≡ Err refusal → Plain refusal
unfolding subject_in
subject_plain name fields refusal h e =
    one_of (text_in name fields) _ refusal e (text_plain name fields refusal h) (λ text made. only_plain is_subject_text name text refusal h made)

pub nothing_plain : (name : Bytes) (fields : Members) (refusal : ApiError) → is_ascii name ≡ true → nothing_in name fields ≡ Err refusal → Plain refusal
nothing_plain name fields refusal h e = refused_if (is_given name fields) tt _ refusal e (left_out_plain name h)

-- The last messages of each subject, from the last one on.
use Rattle.std.proofs.Common.{◌≡◌, ℕ, zero, suc, ◌+◌, ◌<◌, ◌&&◌, Bool, true, false, cond, List, [], ◌∷◌, length, drop, get_or, nat_lt, Option, Some, refl, sym, ap, ◌∙◌, arith}
use Rattle.std.specs.Prelude.{count_by, unwrap_or}
use Rattle.std.proofs.lemmas.List.Sums.{sum_by-cons}
use Rattle.js_base.specs.Bytes.{Bytes, same}
use Rattle.js_model.specs.declared.stream.Message.{Message}
use Rattle.js_model.proofs.Named.{same_is}
use Rattle.durable_checks.specs.Limits.{are_newest}
use Rattle.durable_checks.proofs.Rest.{first_of}

abbrev pub on_subject : Bytes → List Message → ℕ
on_subject subject ms = count_by (λ x. same x.subject subject) ms

-- a count that is set is read
pub set_count : (b : Bool) (n : ℕ) (o : Option ℕ) → unwrap_or (cond b (Some n) o) 0 ≡ cond b n (unwrap_or o 0)
set_count true n o = refl
set_count false n o = refl

and_false : (b : Bool) → (b && false) ≡ false
and_false true = refl
and_false false = refl

not_newest : (n : ℕ) (ms : List Message) (k : ℕ) → are_newest n (drop k ms) ≡ false → are_newest n ms ≡ false
not_newest n ms zero h = h
not_newest n [] (suc k) h = h
not_newest n (m ∷ ms) (suc k) h = ap (λ (b : Bool). nat_lt (on_subject m.subject ms) n && b) (not_newest n ms k h) ∙ and_false (nat_lt (on_subject m.subject ms) n)

-- ---- with one more

module _ (ms : List Message) (k j : ℕ) (m : Message) (within : k < length ms) (is : m ≡ get_or ms k m) (next : j ≡ k + 1) where
  pub newest_more : (n : ℕ) → nat_lt (on_subject m.subject (drop j ms)) n ≡ true → are_newest n (drop j ms) ≡ true → are_newest n (drop k ms) ≡ true
  newest_more n few rest = first_of (are_newest n) ms k j m within is next ∙ ap (λ (b : Bool). b && are_newest n (drop j ms)) few ∙ rest

  pub one_too_many : (n : ℕ) → nat_lt (on_subject m.subject (drop j ms)) n ≡ false → are_newest n ms ≡ false
  one_too_many n many = not_newest n ms k (first_of (are_newest n) ms k j m within is next ∙ ap (λ (b : Bool). b && are_newest n (drop j ms)) many)

  pub counted_more : (subject : Bytes) → on_subject subject (drop k ms) ≡ cond (same m.subject subject) (on_subject m.subject (drop j ms) + 1) (on_subject subject (drop j ms))
  counted_more subject =
      first_of (on_subject subject) ms k j m within is next ∙ sum_by-cons (λ (x : Message). cond (same x.subject subject) 1 0) m (drop j ms)
      ∙ go (same m.subject subject) refl
    where
      go : (b : Bool) → same m.subject subject ≡ b → (cond b 1 0 + on_subject subject (drop j ms)) ≡ cond b (on_subject m.subject (drop j ms) + 1) (on_subject subject (drop j ms))
      go true e = ap (λ (s : Bytes). 1 + on_subject s (drop j ms)) (sym (same_is m.subject subject e)) ∙ omega arith
      go false e = omega arith

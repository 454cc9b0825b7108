use Rattle.std.proofs.Common.{true, false, Bool, cond, Some, None, ◌≡◌, refl, ap, ◌∙◌, ℕ}
use Rattle.std.specs.Str.{is_utf8, IsUtf8}
use Rattle.std.specs.Str.Lossy.{utf8_valid_len}
use Rattle.std.proofs.lemmas.Str.{is_utf8-from_IsUtf8, IsUtf8-from_is_utf8}
use Rattle.js_base.specs.Bytes.{Bytes}
use Rattle.subject_match.specs.Faults.{broken}
use Rattle.subject_match.proofs.check.broken.Goals as goal

whole : (text : Bytes) → IsUtf8 text → None ≡ broken text
whole text h = rw (is_utf8-from_IsUtf8 text h) refl

cut : (text : Bytes) (at : ℕ) → (IsUtf8 text → ⊥) → at ≡ utf8_valid_len text → Some at ≡ broken text
cut text at h e = go (is_utf8 text) refl
  where
    go : (b : Bool) → is_utf8 text ≡ b → Some at ≡ cond b None (Some (utf8_valid_len text))
    go true f = absurd (h (IsUtf8-from_is_utf8 text f))
    go false f = ap Some e

pub returns-in-Ok : goal.returns-in-Ok
returns-in-Ok c = record { value = whole _ c.in-Ok.ensures.cases.1 }

pub returns-in-Err : goal.returns-in-Err
returns-in-Err c = record { value = cut _ _ c.in-Err.ensures.cases.0 (c.valid_up_to.ensures ∙ c.in-Err.ensures.valid_len) }

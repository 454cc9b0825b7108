-- Ids by their texts, from the last one on.
use Rattle.std.proofs.Common.{◌≡◌, ℕ, zero, suc, ◌+◌, ◌<◌, ◌||◌, ◌&&◌, Bool, true, false, not, cond, List, [], ◌∷◌, length, drop, get_or, Option, Some, refl, ap, ◌∙◌}
use Rattle.std.specs.Prelude.{is_some}
use Rattle.std.specs.List.{list_any}
use Rattle.js_base.specs.Bytes.{Bytes, same}
use Rattle.js_model.specs.declared.stream.Id.{Id}
use Rattle.model_laws.specs.SoundTests.{are_different}
use Rattle.durable_checks.proofs.Rest.{first_of}

-- some id has this text
abbrev pub is_text_in : List Id → Bytes → Bool
is_text_in ids text = list_any (λ i. same i.id text) ids

-- a value that is set is there
pub set_there : (b : Bool) (n : ℕ) (o : Option ℕ) → is_some (cond b (Some n) o) ≡ (b || is_some o)
set_there true n o = refl
set_there false n o = refl

and_false : (b : Bool) → (b && false) ≡ false
and_false true = refl
and_false false = refl

-- where the ids from a place on are not different, all of them are not
not_different : (ids : List Id) (k : ℕ) → are_different (drop k ids) ≡ false → are_different ids ≡ false
not_different ids zero h = h
not_different [] (suc k) h = h
not_different (i ∷ ids) (suc k) h = ap (λ (b : Bool). not (list_any (λ j. same j.id i.id) ids) && b) (not_different ids k h) ∙ and_false (not (list_any (λ j. same j.id i.id) ids))

pub comes_twice : (ids : List Id) (k j : ℕ) (i : Id) → k < length ids → i ≡ get_or ids k i → j ≡ k + 1 → is_text_in (drop j ids) i.id ≡ true → are_different ids ≡ false
comes_twice ids k j i within is next known = not_different ids k (first_of are_different ids k j i within is next ∙ ap (λ (b : Bool). not b && are_different (drop j ids)) known)

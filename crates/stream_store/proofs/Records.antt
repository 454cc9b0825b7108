-- Changes of a list, and the bytes of a slice.
use Rattle.std.proofs.Common.{◌≡◌, ℕ, ◌<◌, Bool, true, false, List, length, get_or, IsTrue, All, refl, sym, ap, ◌∙◌}
use Rattle.std.specs.List.{list_all}
use Rattle.std.proofs.lemmas.Bool.{true≢false}
use Rattle.std.proofs.lemmas.List.Elements.{All-from_get_or}
use Rattle.std.proofs.lemmas.List.Folds.{list_all_at}
use Rattle.js_base.specs.Bytes.{Bytes}
use Rattle.effects.specs.declared.effect.Effect.{Effect}
use Rattle.op_records.specs.Allowed.{is_record}

-- each of them may be handed over
pub record_there : (es : List Effect) (i : ℕ) (e : Effect) → IsTrue (list_all is_record es) → i < length es → e ≡ get_or es i e → IsTrue (is_record e)
record_there es i e all within is = go (is_record (get_or es i e)) refl
  where
    go : (b : Bool) → is_record (get_or es i e) ≡ b → is_record e ≡ true
    go true t = ap is_record is ∙ t
    go false f = absurd (true≢false (sym all ∙ list_all_at is_record es i e within f))

pub are_bytes : (bytes : Bytes) → ((k : ℕ) → get_or bytes k 0 < 256) → All (λ byte. byte < 256) bytes
are_bytes bytes each = All-from_get_or (λ byte. byte < 256) bytes 0 (λ i within. each i)

-- Sums of lengths.
use Rattle.std.proofs.Common.{◌≡◌, ◌+◌, ◌*◌, List, [], ◌∷◌, length, refl, arith}
use Rattle.std.specs.Prelude.{sum_by}
use Rattle.std.proofs.lemmas.List.Sums.{sum_by-cons}
use Rattle.js_model.specs.declared.stream.Id.{Id}
use Rattle.snapshot_bound.specs.Bounds.{id_length}

-- the texts of ids, and 18 bytes for each
pub ids_sum : (ids : List Id) → sum_by id_length ids ≡ 18 * length ids + sum_by (λ i. length i.id) ids
ids_sum [] = refl
ids_sum (i ∷ ids) = omega (arith, ids_sum ids, sum_by-cons id_length i ids, sum_by-cons (λ (x : Id). length x.id) i ids)

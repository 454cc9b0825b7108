-- The ranges of what leaves may be recorded.
use Rattle.std.proofs.Common.{ℕ, ◌+◌, ◌<◌, ◌≤◌, ◌^◌, Bool, true, false, not, cond, List, [], ◌∷◌, map, refl, arith}
use Rattle.std.specs.Prelude.{⊤}
use Rattle.std.proofs.lemmas.Bool.{and_from, le-leb}
use Rattle.js_base.specs.Bytes.{has}
use Rattle.js_model.specs.declared.stream.Message.{Message}
use Rattle.js_model.specs.Lists.{Between}
use Rattle.js_model.specs.Streams.{seqs}
use Rattle.js_model.proofs.Parts.{filter_part, part_between, between_bounds, between_map}
use Rattle.effects.specs.Ranges.{Range, first_leaves, with_leaving, ranges}
use Rattle.effects.specs.TimeEffects.{remove_of, removals}
use Rattle.op_records.specs.Allowed.{is_range}
use Rattle.record_laws.proofs.Allowing.{Allowed, number}

-- the ranges lie from low on and below high, and the ends of each are in order
abbrev AreInOrder : ℕ → ℕ → List Range → Type 0
AreInOrder low high [] = ⊤
AreInOrder low high (r ∷ rs) = (low ≤ r.low) × (r.low ≤ r.high) × (r.high < high) × AreInOrder low high rs

from_lower : (low new high : ℕ) (rs : List Range) → new ≤ low → AreInOrder low high rs → AreInOrder new high rs
from_lower low new high [] l h = tt
from_lower low new high (r ∷ rs) l (a, b, c, rest) = (omega arith, b, c, from_lower low new high rs l rest)

with_first : (n high : ℕ) (rs : List Range) (joins : Bool) → n < high → AreInOrder (n + 1) high rs → AreInOrder n high (with_leaving n joins rs)
with_first n high rs false l h = (omega arith, omega arith, l, from_lower (n + 1) n high rs (omega arith) h)
with_first n high [] true l h = tt
with_first n high (r ∷ rs) true l (a, b, c, rest) = (omega arith, omega arith, c, from_lower (n + 1) n high rs (omega arith) rest)

in_order : (leaves : ℕ → Bool) (low high : ℕ) (ns : List ℕ) → Between (λ n. n) low high ns → AreInOrder low high (ranges leaves ns)
in_order leaves low high [] h = tt
in_order leaves low high (n ∷ ns) h = from_lower n low high _ h.0 (go (leaves n) (in_order leaves (n + 1) high ns h.1))
  where
    below : n < high
    below = let q : n + 1 ≤ high = between_bounds (λ m. m) (n + 1) high ns h.1 in omega arith

    go : (b : Bool) → AreInOrder (n + 1) high (ranges leaves ns) → AreInOrder n high (cond b (with_leaving n (first_leaves leaves ns) (ranges leaves ns)) (ranges leaves ns))
    go true k = with_first n high (ranges leaves ns) (first_leaves leaves ns) below k
    go false k = from_lower (n + 1) n high (ranges leaves ns) (omega arith) k

allowed_ranges : (low high : ℕ) (rs : List Range) → high ≤ 2 ^ 62 → AreInOrder low high rs → Allowed (map remove_of rs)
allowed_ranges low high [] l h = refl
allowed_ranges low high (r ∷ rs) l (a, b, c, rest) =
    and_from (is_range r.low r.high) _
    (and_from _ _ (and_from _ _ (number r.low (omega arith)) (number r.high (omega arith))) (le-leb r.low r.high b))
    (allowed_ranges low high rs l rest)

-- of what leaves messages in order of their sequences
pub allowed_removals : (high : ℕ) (skipped : List ℕ) (before after : List Message) → Between (λ m. m.seq) 1 high before → high ≤ 2 ^ 62 → Allowed (removals skipped before after)
allowed_removals high skipped before after h l =
    allowed_ranges 1 high _ l (in_order (λ n. not (has (seqs after) n)) 1 high _ (part_between (λ n. n) 1 high (filter_part (λ n. not (has skipped n)) (seqs before)) (between_map (λ n. n) (λ m. m.seq) 1 high before h)))

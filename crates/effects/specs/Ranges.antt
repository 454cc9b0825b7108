-- Ranges of sequences, and the fewest that name what leaves a list, by a rule of this server's own.
use Rattle.std.specs.Prelude.{ℕ, nat_le, Bool, true, false, ◌&&◌, not, if◌then◌else◌, List, [], ◌∷◌}

-- the sequences from low to high, both of them too
pub record Range : Type 0 where
  pub low : ℕ
  pub high : ℕ

abbrev pub is_within : ℕ → ℕ → ℕ → Bool
is_within low high n = nat_le low n && nat_le n high

-- no range has the sequence
abbrev pub is_outside : List Range → ℕ → Bool
is_outside [] n = true
is_outside (r ∷ rs) n = not (is_within r.low r.high n) && is_outside rs n

-- the first of these sequences leaves
abbrev pub first_leaves : (ℕ → Bool) → List ℕ → Bool
first_leaves leaves [] = false
first_leaves leaves (n ∷ _) = leaves n

-- the first of the ranges begins lower
abbrev pub widened : ℕ → List Range → List Range
widened n [] = []
widened n (r ∷ rs) = record { low = n; high = r.high } ∷ rs

abbrev pub with_leaving : ℕ → Bool → List Range → List Range
with_leaving n joins rs = if joins then widened n rs else record { low = n; high = n } ∷ rs

-- of ascending sequences, a range for each longest part of them that leaves
abbrev pub ranges : (ℕ → Bool) → List ℕ → List Range
ranges leaves [] = []
ranges leaves (n ∷ ns) = if leaves n then with_leaving n (first_leaves leaves ns) (ranges leaves ns) else ranges leaves ns

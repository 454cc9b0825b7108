-- What a call makes of the bytes that a crash leaves of its file, where the crash may come at any part of it.
use Rattle.std.specs.Prelude.{◌≡◌, ℕ, ◌+◌, ◌≤◌, max, List, ◌++◌, length, take, drop}

-- the old bytes with these written over them from an offset on
abbrev pub written : ℕ → List ℕ → List ℕ → List ℕ
written at bytes old = take at old ++ bytes ++ drop (at + length bytes) old

-- A write of n bytes: the range holds any bytes, the others stay, and the file may have grown up to the
-- range's end.
pub record Torn (at n : ℕ) (old new : List ℕ) : Type 0 where
  pub before : take at new ≡ take at old
  pub after : drop (at + n) new ≡ drop (at + n) old
  pub no_shorter : length old ≤ length new
  pub no_longer : length new ≤ max (length old) (at + n)

-- A cut: the bytes before it stay. The file may have any length from there on up to the old one, and
-- hold any bytes there.
pub record CutTo (to : ℕ) (old new : List ℕ) : Type 0 where
  pub front : take to new ≡ take to old
  pub no_longer : length new ≤ length old

-- a look or a sync: all stays
pub record Kept (old new : List ℕ) : Type 0 where
  pub same : new ≡ old

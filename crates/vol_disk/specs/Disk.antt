-- What a volume tells of its disk: numbered files, each of them bytes.
use Rattle.std.specs.Prelude.{◌≡◌, ℕ, ◌≤◌, List, []}

-- the bytes of each file, by its number
abbrev pub Files : Type 0
Files = ℕ → List ℕ

pub record Disk : Type 1 where
  -- what a read gives
  pub seen : ℕ → List ℕ
  -- what a crash now may leave of a file; each file is left for itself
  pub leaves : ℕ → List ℕ → Type 0
  -- the disk's own clock
  pub moment : ℕ
  -- the files that a crash at some moment since that one may have left
  pub may_leave : ℕ → (ℕ → List ℕ) → Type 0

-- a crash now leaves bytes of none but files with a number below this one
abbrev pub IsLeftBelow : ℕ → Disk → Type 0
IsLeftBelow end disk = (file : ℕ) → end ≤ file → (bytes : List ℕ) → disk.leaves file bytes → bytes ≡ []

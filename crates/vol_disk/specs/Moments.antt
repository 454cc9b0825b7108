-- What a run of calls leaves at each of its moments.
use Rattle.std.specs.Prelude.{◌≡◌, ◌≢◌, ◌⊎◌, ℕ, ◌≤◌, List}
use Rattle.vol_disk.specs.Disk.{Disk, Files}
use Rattle.vol_disk.specs.Images.{IsImage}

-- A crash at any moment of the run leaves files that have P.
pub record LeavesOnly (old new : Disk) (P : Files → Type 0) : Type 0 where
  pub later : old.moment ≤ new.moment
  pub each : (image : Files) → new.may_leave old.moment image → P image
  -- and so for a run that began earlier
  pub before : (t : ℕ) (image : Files) → t ≤ old.moment → new.may_leave t image → old.may_leave t image ⊎ P image

-- the other files are left as they might have been left before
abbrev pub Elsewhere : ℕ → Disk → Files → Type 0
Elsewhere file old image = (other : ℕ) → other ≢ file → old.leaves other (image other)

-- Nothing was written: all reads as before, and at each moment a crash leaves what it might have left before.
pub record Quiet (old new : Disk) : Type 0 where
  pub seen : (file : ℕ) → new.seen file ≡ old.seen file
  pub leaves : (file : ℕ) (bytes : List ℕ) → new.leaves file bytes → old.leaves file bytes
  pub any_moment : LeavesOnly old new (IsImage old)

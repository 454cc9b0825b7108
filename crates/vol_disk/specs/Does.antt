-- What one call on one file does to a disk.
use Rattle.std.specs.Prelude.{◌≡◌, ◌≢◌, ◌⊎◌, ℕ, ◌≤◌, List}
use Rattle.vol_disk.specs.Disk.{Disk, Files}
use Rattle.vol_disk.specs.Images.{IsImage}

-- whatever a crash leaves now, it might have left before, but for the step
abbrev pub Follows : (List ℕ → List ℕ → Type 0) → (List ℕ → Type 0) → (List ℕ → Type 0) → Type 0
Follows Step old new = (bytes : List ℕ) → new bytes → (before : List ℕ) × old before × Step before bytes

-- a file reads as before, and a crash leaves nothing else of it than before
pub record Rests (file : ℕ) (old new : Disk) : Type 0 where
  pub seen : new.seen file ≡ old.seen file
  pub leaves : (bytes : List ℕ) → new.leaves file bytes → old.leaves file bytes

-- Time goes on: since a moment a crash may have left what it might have left by then, and what it may
-- leave now.
pub record Elapses (old new : Disk) : Type 0 where
  pub later : old.moment ≤ new.moment
  pub keeps : (t : ℕ) (image : Files) → t ≤ old.moment → old.may_leave t image → new.may_leave t image
  pub adds : (t : ℕ) (image : Files) → t ≤ old.moment → new.may_leave t image → old.may_leave t image ⊎ IsImage new image

-- The call makes this step on the file, and no other file is touched.
pub record Does (file : ℕ) (Step : List ℕ → List ℕ → Type 0) (old new : Disk) : Type 0 where
  pub leaves : Follows Step (old.leaves file) (new.leaves file)
  pub elsewhere : (other : ℕ) → other ≢ file → Rests other old new
  pub time : Elapses old new

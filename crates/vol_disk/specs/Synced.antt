-- A write or a cut of a durable file, and the sync behind it.
use Rattle.std.specs.Prelude.{◌≢◌, ℕ, List}
use Rattle.vol_disk.specs.Disk.{Disk}
use Rattle.vol_disk.specs.Does.{Rests}
use Rattle.vol_disk.specs.Moments.{LeavesOnly, Elsewhere}

-- At each moment a crash leaves of the file what it read as before, after a part of the step.
pub record DoesSynced (file : ℕ) (Step : List ℕ → List ℕ → Type 0) (old new : Disk) : Type 0 where
  pub elsewhere : (other : ℕ) → other ≢ file → Rests other old new
  pub any_moment : LeavesOnly old new (λ image. Step (old.seen file) (image file) × Elsewhere file old image)

-- What calls on a block file leave as it was. Own.
use Rattle.std.specs.Prelude.{◌≢◌, ℕ, ◌≤◌, length}
use Rattle.std.specs.Io.{StartsWith}
use Rattle.js_base.specs.Bytes.{Bytes}
use Rattle.vol_disk.specs.Disk.{Disk}
use Rattle.vol_disk.specs.Does.{Rests}
use Rattle.vol_disk.specs.Moments.{LeavesOnly, Elsewhere}
use Rattle.message_block.specs.Standing.{Stands}

-- No file but this one is touched, whenever a crash comes.
pub record ChangesOnly (file : ℕ) (old new : Disk) : Type 0 where
  pub elsewhere : (other : ℕ) → other ≢ file → Rests other old new
  pub any_moment : LeavesOnly old new (Elsewhere file old)

-- No file but this one is touched, and what stood in it in front of the offset still does, whenever a crash comes.
pub record ChangesFrom (file at : ℕ) (old new : Disk) : Type 0 where
  pub elsewhere : (other : ℕ) → other ≢ file → Rests other old new
  pub stands : (front : Bytes) → length front ≤ at → Stands old file front → Stands new file front
  pub any_moment : (front : Bytes) → length front ≤ at → Stands old file front →
      LeavesOnly old new (λ image. StartsWith (image file) front × Elsewhere file old image)

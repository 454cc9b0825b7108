-- What a log leaves as it is shut, or as one is started in its file.
use Rattle.std.specs.Prelude.{◌≡◌, ◌≢◌, ◌⊎◌, ℕ, List, [], Option, None, length, take, drop, slice_index}
use Rattle.vol_disk.specs.Disk.{Disk}
use Rattle.vol_disk.specs.Does.{Rests}
use Rattle.vol_disk.specs.Moments.{LeavesOnly, Elsewhere}
use Rattle.js_base.specs.Bytes.{Bytes}
use Rattle.gate_log.specs.LogFile.{HasOpen}

-- no batch is open any more, if the file had no fault
abbrev pub IsEmptied : Bytes → Bytes → Type 0
IsEmptied old new = (generation : Option ℕ) (batches : List Bytes) → HasOpen old generation batches → HasOpen new None []

-- at any moment the file is as it was, or emptied
pub record Starts (file : ℕ) (old new : Disk) : Type 0 where
  pub elsewhere : (other : ℕ) → other ≢ file → Rests other old new
  pub any_moment : LeavesOnly old new (λ image. ((image file ≡ old.seen file) ⊎ IsEmptied (old.seen file) (image file)) × Elsewhere file old image)

-- the first gate is closed, and all else is as it was
pub record IsClosed (old new : Bytes) : Type 0 where
  pub before : take 20 new ≡ take 20 old
  pub closed : slice_index new 20 ≢ 1
  pub behind : drop 21 new ≡ drop 21 old
  pub as_long : length new ≡ length old

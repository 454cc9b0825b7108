-- How long a log file gets, and room that is made in it.
use Rattle.std.specs.Prelude.{◌≡◌, ◌≢◌, ◌<◌, ◌≤◌, ℕ, max, List, Option, length}
use Rattle.vol_disk.specs.Disk.{Disk}
use Rattle.vol_disk.specs.Does.{Rests}
use Rattle.vol_disk.specs.Moments.{LeavesOnly, Elsewhere}
use Rattle.vol_disk.specs.declared.room.Room.{Room}
use Rattle.vol_disk.specs.declared.room.Room.TheVariants.{Made, Refused}
use Rattle.js_base.specs.Bytes.{Bytes}
use Rattle.gate_log.specs.Batches.{end_of}
use Rattle.gate_log.specs.LogFile.{HasOpen, IsShut}

-- ---- lengths

-- at any moment a crash leaves the file as long as it was
abbrev pub StaysAsLong : ℕ → Disk → Disk → Type 0
StaysAsLong file old new = LeavesOnly old new (λ image. length (image file) ≡ length (old.seen file))

-- at any moment a crash leaves it no longer than it was, or than so many bytes
abbrev pub GrowsTo : ℕ → ℕ → Disk → Disk → Type 0
GrowsTo file count old new = LeavesOnly old new (λ image. length (image file) ≤ max count (length (old.seen file)))

-- ---- open batches stay

-- a log file that became another one holds what it held
abbrev pub KeepsOpen : Bytes → Bytes → Type 0
KeepsOpen old new = (generation : Option ℕ) (batches : List Bytes) → HasOpen old generation batches → HasOpen new generation batches

-- so it is of what a crash leaves of the file at any moment, and no other file is touched
pub record LeavesOpen (file : ℕ) (old new : Disk) : Type 0 where
  pub elsewhere : (other : ℕ) → other ≢ file → Rests other old new
  pub any_moment : LeavesOnly old new (λ image. KeepsOpen (old.seen file) (image file) × Elsewhere file old image)

-- the gate after its open batches, or its first gate, stands before this offset
pub record EndsBefore (end : ℕ) (bytes : Bytes) : Type 0 where
  pub generation : Option ℕ
  pub batches : List Bytes
  pub read : HasOpen bytes generation batches
  pub before : end_of batches < end

-- ---- the head of a file that has none

-- it has a head and a closed gate, if there was room for them, and else is too short to hold anything
abbrev pub IsHeaded : Room → Bytes → Type 0
IsHeaded Made bytes = IsShut bytes × (length bytes ≡ 21)
IsHeaded Refused bytes = length bytes ≤ 21

-- Why a store is not opened, and what its opening leaves.
use Rattle.std.specs.Prelude.{◌≡◌, ◌≢◌, ◌⊎◌, ℕ, [], ◌∷◌, Some}
use Rattle.vol_disk.specs.Disk.{Disk, Files}
use Rattle.vol_disk.specs.Does.{Rests}
use Rattle.vol_disk.specs.Moments.{LeavesOnly, Quiet}
use Rattle.gate_log.specs.LogState.{LogState}
use Rattle.gate_log.specs.Settled.{IsSettled}
use Rattle.op_records.specs.Spelling.{spelled_vacant}
use Rattle.effects.specs.declared.durable.Durable.{Durable}
use Rattle.stream_store.specs.Damage.{IsDamaged, IsOfAnotherVersion}
use Rattle.stream_store.specs.Holding.{Holds, AllHold}
use Rattle.stream_store.specs.Untouched.{IsNoneOpen, IsUntouched}
use Rattle.stream_store.specs.declared.fault.OpenFault.{OpenFault}
use Rattle.stream_store.specs.declared.fault.OpenFault.TheVariants.{Fault, Damaged, UnknownVersion, NoRoom, NoMemory as OutOfMemory}

-- the volume failed or had no room, memory ran out, or the image has this fault
abbrev pub IsOpenFault : Files → OpenFault → Type 0
IsOpenFault image Fault = Unit {0}
IsOpenFault image (Damaged file at) = IsDamaged image file at
IsOpenFault image (UnknownVersion n) = IsOfAnotherVersion image n
IsOpenFault image NoRoom = Unit {0}
IsOpenFault image OutOfMemory = Unit {0}

-- where reads and each image held the same before, each image of a crash at any moment holds it
abbrev pub KeepsHeld : Disk → Disk → Type 0
KeepsHeld old new = (d : Durable) → Holds old.seen d → AllHold old d → LeavesOnly old new (λ image. Holds image d)

-- nothing was written, unless no log had an open batch and nothing was there that a stream leaves
abbrev pub LeavesBegun : Disk → Disk → Type 0
LeavesBegun old new = (IsNoneOpen old.seen × IsUntouched old.seen) ⊎ Quiet old new

-- the log of file 0, of generation 1, whose one batch says that the place is vacant and never had a stream
pub record IsFirstLog (log : LogState) (disk : Disk) : Type 0 where
  pub file : log.file ≡ 0
  pub head : log.head ≡ Some 1
  pub settled : IsSettled log (spelled_vacant 0 ∷ []) disk

-- every file but this one is as it was
abbrev pub RestsBut : ℕ → Disk → Disk → Type 0
RestsBut file old new = (other : ℕ) → other ≢ file → Rests other old new

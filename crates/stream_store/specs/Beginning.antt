-- The first log of a volume that never had one.
use Rattle.vol_disk.specs.Disk.{Disk}
use Rattle.vol_disk.specs.Images.{IsDurable}
use Rattle.vol_disk.specs.Moments.{LeavesOnly}
use Rattle.effects.specs.Folding.{vacant}
use Rattle.stream_store.specs.Holding.{Holds}
use Rattle.stream_store.specs.Untouched.{AreBlocksGone, IsNoneOpen, IsUntouched}
use Rattle.stream_store.specs.declared.fault.OpenFault.{OpenFault}
use Rattle.stream_store.specs.declared.fault.OpenFault.TheVariants.{Fault, Damaged, UnknownVersion, NoRoom, NoMemory as OutOfMemory}

-- no batch is open in either log, both are on the disk, and nothing is there that a stream leaves
pub record IsUnbegun (disk : Disk) : Type 0 where
  pub none : IsNoneOpen disk.seen
  pub durable_zero : IsDurable disk 0
  pub durable_one : IsDurable disk 1
  pub untouched : IsUntouched disk.seen
  pub gone : AreBlocksGone disk

-- at any moment of a call a crash leaves a vacant place that never had a stream
abbrev pub HoldsNothing : Disk → Disk → Type 0
HoldsNothing old new = LeavesOnly old new (λ image. Holds image (vacant 0))

-- the volume failed, or had no room, or memory ran out
abbrev pub IsBeginFault : OpenFault → Type 0
IsBeginFault Fault = Unit {0}
IsBeginFault (Damaged file at) = ⊥
IsBeginFault (UnknownVersion n) = ⊥
IsBeginFault NoRoom = Unit {0}
IsBeginFault OutOfMemory = Unit {0}

-- the volume failed, or memory ran out
abbrev pub IsOutsideFault : OpenFault → Type 0
IsOutsideFault Fault = Unit {0}
IsOutsideFault (Damaged file at) = ⊥
IsOutsideFault (UnknownVersion n) = ⊥
IsOutsideFault NoRoom = ⊥
IsOutsideFault OutOfMemory = Unit {0}

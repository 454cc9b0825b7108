-- The current log of a volume, as it is found, and why it is not.
use Rattle.std.specs.Prelude.{◌≡◌, ℕ, List}
use Rattle.vol_disk.specs.Disk.{Disk, Files}
use Rattle.vol_disk.specs.Images.{IsDurable}
use Rattle.js_base.specs.Bytes.{Bytes}
use Rattle.gate_log.specs.Faults.{IsDamagedAt}
use Rattle.gate_log.specs.LogState.{LogState}
use Rattle.gate_log.specs.Opening.{IsOpenFault as IsFileFault}
use Rattle.gate_log.specs.Settled.{IsSettled}
use Rattle.gate_log.specs.declared.fault.LogFault.{LogFault}
use Rattle.stream_store.specs.Logs.{LogIn, HasLogs, current, current_file}
use Rattle.stream_store.specs.Damage.{IsBadLog, IsBadLogged, IsOfAnotherVersion}
use Rattle.stream_store.specs.Faults.{open_fault}
use Rattle.stream_store.specs.declared.fault.OpenFault.{OpenFault}
use Rattle.stream_store.specs.declared.fault.OpenFault.TheVariants.{Fault, Damaged, UnknownVersion, NoRoom, NoMemory as OutOfMemory}
use Rattle.stream_store.specs.declared.logs.Current.{Current}

-- both logs have no fault, and are on the disk; it is the current one of them
pub record IsCurrent (found : Current) (old new : Disk) : Type 0 where
  pub zero : LogIn
  pub one : LogIn
  pub logs : HasLogs old.seen zero one
  pub file_is : found.file ≡ current_file zero one
  pub log_file : found.log.file ≡ found.file
  pub settled : IsSettled found.log (current zero one).batches new
  pub durable_zero : IsDurable new 0
  pub durable_one : IsDurable new 1

-- the log in this file has a fault, and it is told so
abbrev pub IsFaultIn : ℕ → Files → OpenFault → Type 0
IsFaultIn file image told = (fault : LogFault) × IsFileFault (image file) fault × (told ≡ open_fault file fault)

-- the volume failed, or a log has this fault
abbrev pub IsLogFault : Files → OpenFault → Type 0
IsLogFault image Fault = Unit {0}
IsLogFault image (Damaged file at) = IsBadLog image file (λ bytes. IsDamagedAt bytes at)
IsLogFault image (UnknownVersion n) = IsOfAnotherVersion image n
IsLogFault image NoRoom = ⊥
IsLogFault image OutOfMemory = ⊥

-- the volume failed, or a file is damaged, and this is so
abbrev pub IsFaultWhere : (ℕ → ℕ → Type 0) → OpenFault → Type 0
IsFaultWhere P Fault = Unit {0}
IsFaultWhere P (Damaged file at) = P file at
IsFaultWhere P (UnknownVersion n) = ⊥
IsFaultWhere P NoRoom = ⊥
IsFaultWhere P OutOfMemory = ⊥

-- the volume failed, memory ran out, or what the log in this file tells is wrong
abbrev pub IsRecordsFault : ℕ → LogState → Disk → OpenFault → Type 0
IsRecordsFault file log disk Fault = Unit {0}
IsRecordsFault file log disk (Damaged damaged at) = (batches : List Bytes) → IsSettled log batches disk → IsBadLogged disk.seen file batches damaged at
IsRecordsFault file log disk (UnknownVersion n) = ⊥
IsRecordsFault file log disk NoRoom = ⊥
IsRecordsFault file log disk OutOfMemory = Unit {0}

-- What is read of the batches of a log.
use Rattle.std.specs.Prelude.{◌≡◌, ◌⊎◌, ◌+◌, ◌<◌, ◌^◌, ℕ, length, List, [], ◌∷◌, Option, Some, None, Ok, Err}
use Rattle.vol_disk.specs.Disk.{Disk}
use Rattle.js_base.specs.Bytes.{Bytes}
use Rattle.gate_log.specs.LogState.{LogState}
use Rattle.gate_log.specs.Reading.{IsGate}
use Rattle.gate_log.specs.Settled.{IsSettled}
use Rattle.op_records.specs.declared.record.Record.{Record}
use Rattle.op_records.specs.Reading.{AreRecords, record_at}
use Rattle.op_records.specs.declared.fault.RecordFault.{RecordFault}
use Rattle.op_records.specs.declared.fault.RecordFault.TheVariants.{Cut, BadKind, BadField, NoMemory as NoRoom}
use Rattle.state_snapshot.specs.Reading.{snapshot_field}
use Rattle.record_fold.specs.declared.fault.FoldFault.{FoldFault}
use Rattle.record_fold.specs.declared.fault.FoldFault.TheVariants.{Misfit, NoMemory as Refused}
use Rattle.log_records.specs.Logged.{Logged, fold_record, fold_records}
use Rattle.log_records.specs.Misfits.{misfit_of}
use Rattle.log_records.specs.Batches.{Adds, AddAll, Begins}
use Rattle.log_records.specs.Damage.{IsAt, IsLast, HasBadRecord, IsNoFirst, IsUnfitSnapshot, HasBadBatch}
use Rattle.log_records.specs.Ends.{IsLastBehind, IsLastIn}
use Rattle.log_records.specs.Holding.{made_in, IsSoundMade, given_in}
use Rattle.log_records.specs.declared.made.Made.{Made}
use Rattle.log_records.specs.declared.log.LogRead.{LogRead}
use Rattle.log_records.specs.declared.batch.BatchFault.{BatchFault}
use Rattle.log_records.specs.declared.batch.BatchFault.TheVariants as batch
use Rattle.log_records.specs.declared.fault.ReadFault.{ReadFault}
use Rattle.log_records.specs.declared.fault.ReadFault.TheVariants.{Fault, Damaged, NoMemory as OutOfMemory}

-- what a batch can have: bytes, fewer than 2^32 of them
abbrev pub IsBatch : Bytes → Type 0
IsBatch bytes = length bytes < 2 ^ 32

-- ---- one record

-- the fault of a record as that of its batch
abbrev pub fault_of : RecordFault → BatchFault
fault_of (Cut at) = batch.Wrong at
fault_of (BadKind at) = batch.Wrong at
fault_of (BadField at) = batch.Wrong at
fault_of NoRoom = batch.NoMemory

-- with the record, and sound as before
pub record IsTaken (old : Made) (r : Record) (new : Made) : Type 0 where
  pub fits : fold_record (made_in old) r ≡ Some (made_in new)
  pub sound : IsSoundMade new

-- the record does not fit and this field is wrong, or memory ran out
abbrev pub IsTakeFault : Logged → Record → FoldFault → Type 0
IsTakeFault old r (Misfit at) = (fold_record old r ≡ None) × (at ≡ misfit_of old r)
IsTakeFault old r Refused = Unit {0}

-- the record at this place is none, or does not fit, and the wrong field stands at another one
abbrev pub IsWrongNext : Logged → Bytes → ℕ → ℕ → Type 0
IsWrongNext old bytes here at =
    ((fault : RecordFault) × (record_at bytes here ≡ Err fault) × IsAt fault at)
    ⊎ ((next : Record) × (behind : ℕ) × (record_at bytes here ≡ Ok (next, behind)) × (fold_record old next ≡ None) × (at ≡ here + misfit_of old next))

-- the record at this place leads from the one to the other, and ends at another place
pub record IsNext (old : Logged) (bytes : Bytes) (here : ℕ) (new : Logged) (behind : ℕ) : Type 0 where
  pub next : Record
  pub reads : record_at bytes here ≡ Ok (next, behind)
  pub fits : fold_record old next ≡ Some new

-- the record at this place is wrong, or memory ran out
abbrev pub IsNextFault : Logged → Bytes → ℕ → BatchFault → Type 0
IsNextFault old bytes here (batch.Wrong at) = IsWrongNext old bytes here at
IsNextFault old bytes here batch.NoMemory = Unit {0}

-- the wrong field stands so far behind the record's kind; no slice is so long that its place is no number
abbrev pub IsPlaced : ℕ → ℕ → BatchFault → Type 0
IsPlaced at field (batch.Wrong place) = place ≡ at + field
IsPlaced at field batch.NoMemory = Unit {0}

-- ---- one batch

-- the first batch is no snapshot, or one with which no log can begin
abbrev pub IsWrongStart : Bytes → ℕ → Type 0
IsWrongStart first at = ((fault : RecordFault) × (snapshot_field first 0 ≡ Err fault) × IsAt fault at) ⊎ (IsUnfitSnapshot first × (at ≡ 0))

-- the first batch of a log is none with which a log begins, or memory ran out
abbrev pub IsStartFault : Bytes → BatchFault → Type 0
IsStartFault first (batch.Wrong at) = IsWrongStart first at
IsStartFault first batch.NoMemory = Unit {0}

-- where the last record of the batch stands, with which it makes this; it may have none
abbrev pub IsLastOf : Logged → Bytes → Logged → Option ℕ → Type 0
IsLastOf old bytes new None = (bytes ≡ []) × (new ≡ old)
IsLastOf old bytes new (Some here) = IsLast old bytes here new

-- the records of a batch make this of it
pub record AreRead (old : Logged) (bytes : Bytes) (new : Logged) (last : Option ℕ) : Type 0 where
  pub records : List Record
  pub stand : AreRecords bytes records
  pub folded : fold_records records (Some old) ≡ Some new
  pub last_is : IsLastOf old bytes new last

-- the batch leads from the one to the other
pub record IsAdded (old : Logged) (bytes : Bytes) (new : Logged) (last : Option ℕ) : Type 0 where
  pub adds : Adds old bytes new
  pub last_is : IsLastOf old bytes adds.made last

-- a record of the batch is wrong, or memory ran out
abbrev pub IsBatchFault : Logged → Bytes → BatchFault → Type 0
IsBatchFault old bytes (batch.Wrong at) = HasBadRecord old bytes at
IsBatchFault old bytes batch.NoMemory = Unit {0}

-- ---- the whole log

-- where a place among the records of the batch behind a gate stands; no file is so long that this is no number of 64 bits
abbrev pub IsOffset : ℕ → ℕ → Option ℕ → Type 0
IsOffset gate place (Some at) = at ≡ gate + 9 + place
IsOffset gate place None = Unit {0}

-- where the last record of the batch behind a gate stands; it may have none
abbrev pub IsOffsetOf : ℕ → Option ℕ → Option ℕ → Type 0
IsOffsetOf gate None at = at ≡ None
IsOffsetOf gate (Some place) at = at ≡ Some (gate + 9 + place)

-- the fault of the batch behind a gate
abbrev pub IsTold : ℕ → BatchFault → ReadFault → Type 0
IsTold gate fault Fault = ⊥
IsTold gate fault (Damaged at) = (place : ℕ) × (fault ≡ batch.Wrong place) × (at ≡ gate + 9 + place)
IsTold gate fault OutOfMemory = Unit {0}

-- a first batch is none with which a log begins, or memory ran out
abbrev pub IsFirstFault : Bytes → ReadFault → Type 0
IsFirstFault first Fault = ⊥
IsFirstFault first (Damaged at) = IsNoFirst first at
IsFirstFault first OutOfMemory = Unit {0}

-- a record of the batch behind a gate is wrong, or memory ran out
abbrev pub IsLaterFault : ℕ → Logged → Bytes → ReadFault → Type 0
IsLaterFault gate old bytes Fault = ⊥
IsLaterFault gate old bytes (Damaged at) = (place : ℕ) × HasBadRecord old bytes place × (at ≡ gate + 9 + place)
IsLaterFault gate old bytes OutOfMemory = Unit {0}

-- the last record of the batch behind a gate, with which it makes this, stands at this offset; it may have none
abbrev pub IsLastFrom : ℕ → Logged → Bytes → Logged → Option ℕ → Type 0
IsLastFrom gate old bytes made None = bytes ≡ []
IsLastFrom gate old bytes made (Some at) = (place : ℕ) × IsLast old bytes place made × (at ≡ gate + 9 + place)

-- the batch leads from the one to the other
pub record IsAddedAt (gate : ℕ) (old : Logged) (bytes : Bytes) (new : Logged) (last : Option ℕ) : Type 0 where
  pub adds : Adds old bytes new
  pub last_is : IsLastFrom gate old bytes adds.made last

-- what can be a batch was found, and a gate further on
abbrev pub IsFurther : ℕ → Option (Bytes × ℕ) → Type 0
IsFurther gate None = Unit {0}
IsFurther gate (Some found) = (length found.0 < 2 ^ 32) × (gate < found.1) × (found.1 < 2 ^ 64)

-- the volume failed, or memory ran out
abbrev pub IsOutside : ReadFault → Type 0
IsOutside Fault = Unit {0}
IsOutside (Damaged at) = ⊥
IsOutside OutOfMemory = Unit {0}

-- the batches up to this gate are added, and their last record stands at this offset
pub record IsReadTo (log : LogState) (first : Bytes) (begun : Logged) (gate : ℕ) (g : Logged) (last : ℕ) (disk : Disk) : Type 0 where
  pub front : List Bytes
  pub rest : List Bytes
  pub gate_is : IsGate log (first ∷ front) rest gate disk
  pub added : AddAll begun front g
  pub last_is : IsLastBehind first begun front last

-- the gate stands behind the first batch, which tells this
pub record IsBegun (log : LogState) (gate : ℕ) (begun : Logged) (disk : Disk) : Type 0 where
  pub first : Bytes
  pub rest : List Bytes
  pub begins : Begins first begun
  pub gate_is : IsGate log (first ∷ []) rest gate disk

-- so it is, whatever batches the log has
abbrev pub GivesIn : LogState → Disk → LogRead → Type 0
GivesIn log disk read = (batches : List Bytes) → IsSettled log batches disk → IsLastIn batches (given_in read) read.last

-- the volume failed, memory ran out, or a batch is wrong
abbrev pub IsReadFault : LogState → Disk → ReadFault → Type 0
IsReadFault log disk Fault = Unit {0}
IsReadFault log disk (Damaged at) = (batches : List Bytes) → IsSettled log batches disk → HasBadBatch batches at
IsReadFault log disk OutOfMemory = Unit {0}

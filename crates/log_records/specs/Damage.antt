-- Where the records of a log are damaged, by a format of this server's own: the first of them that is wrong. A record is read as a whole before it is asked
-- whether it fits.
use Rattle.std.specs.Prelude.{◌≡◌, ◌≢◌, ◌⊎◌, ◌<◌, ◌+◌, ℕ, length, List, [], ◌∷◌, ◌++◌, Some, None, Ok, Err}
use Rattle.js_base.specs.Bytes.{Bytes}
use Rattle.gate_log.specs.Batches.{end_of}
use Rattle.op_records.specs.declared.record.Record.{Record}
use Rattle.op_records.specs.Reading.{Stand, record_at}
use Rattle.op_records.specs.declared.fault.RecordFault.{RecordFault}
use Rattle.op_records.specs.declared.fault.RecordFault.TheVariants.{Cut, BadKind, BadField, NoMemory as OutOfMemory}
use Rattle.durable_checks.specs.Storable.{IsStorable}
use Rattle.state_snapshot.specs.Reading.{snapshot_field}
use Rattle.state_snapshot.specs.declared.snapshot.Snapshot.{Snapshot}
use Rattle.log_records.specs.Logged.{Logged, fold_record, fold_records}
use Rattle.log_records.specs.Misfits.{misfit_of}
use Rattle.log_records.specs.Beginnings.{CanBegin, logged_in}
use Rattle.log_records.specs.Batches.{AddAll, Begins}

-- ---- in the bytes of one batch

abbrev pub IsAt : RecordFault → ℕ → Type 0
IsAt (Cut place) at = at ≡ place
IsAt (BadKind place) at = at ≡ place
IsAt (BadField place) at = at ≡ place
IsAt OutOfMemory at = ⊥

-- the records up to this place fit, and lead so far
pub record IsFolded (old : Logged) (bytes : Bytes) (here : ℕ) (mid : Logged) : Type 0 where
  pub records : List Record
  pub stand : Stand bytes 0 records here
  pub folded : fold_records records (Some old) ≡ Some mid

-- the next record is none
pub record IsMisread (old : Logged) (bytes : Bytes) (at : ℕ) : Type 0 where
  pub here : ℕ
  pub mid : Logged
  pub so_far : IsFolded old bytes here mid
  pub more : here < length bytes
  pub fault : RecordFault
  pub wrong : record_at bytes here ≡ Err fault
  pub place : IsAt fault at

-- the next record does not fit
pub record IsMisfit (old : Logged) (bytes : Bytes) (at : ℕ) : Type 0 where
  pub here : ℕ
  pub mid : Logged
  pub so_far : IsFolded old bytes here mid
  pub next : Record
  pub behind : ℕ
  pub reads : record_at bytes here ≡ Ok (next, behind)
  pub unfit : fold_record mid next ≡ None
  pub place : at ≡ here + misfit_of mid next

-- the last record of the batch begins here, and all of them fit
pub record IsLast (old : Logged) (bytes : Bytes) (here : ℕ) (new : Logged) : Type 0 where
  pub mid : Logged
  pub so_far : IsFolded old bytes here mid
  pub next : Record
  pub reads : record_at bytes here ≡ Ok (next, length bytes)
  pub fits : fold_record mid next ≡ Some new

-- all records fit, but what they make may not be stored; the last one is told
pub record IsUnstorable (old : Logged) (bytes : Bytes) (at : ℕ) : Type 0 where
  pub new : Logged
  pub last : IsLast old bytes at new
  pub bad : ¬ IsStorable new.durable

abbrev pub HasBadRecord : Logged → Bytes → ℕ → Type 0
HasBadRecord old bytes at = IsMisread old bytes at ⊎ (IsMisfit old bytes at ⊎ IsUnstorable old bytes at)

-- ---- in the batches of a log

-- the offset in the file of what stands at a place of the batch after these
abbrev pub offset : List Bytes → ℕ → ℕ
offset front place = end_of front + 9 + place

-- a first batch without records, which is told at its gate
pub record IsEmptyFirst (first : Bytes) (at : ℕ) : Type 0 where
  pub empty : first ≡ []
  pub here : at ≡ end_of []

-- a first batch that is no snapshot
pub record IsWrongFirst (first : Bytes) (at : ℕ) : Type 0 where
  pub some : first ≢ []
  pub fault : RecordFault
  pub place : ℕ
  pub wrong : snapshot_field first 0 ≡ Err fault
  pub told : IsAt fault place
  pub here : at ≡ offset [] place

-- the bytes are a snapshot with which no log can begin
pub record IsUnfitSnapshot (first : Bytes) : Type 0 where
  pub snapshot : Snapshot
  pub reads : snapshot_field first 0 ≡ Ok (snapshot, length first)
  pub bad : ¬ CanBegin (logged_in snapshot)

-- it is told where it begins
pub record IsUnfitFirst (first : Bytes) (at : ℕ) : Type 0 where
  pub unfit : IsUnfitSnapshot first
  pub here : at ≡ offset [] 0

abbrev pub IsNoFirst : Bytes → ℕ → Type 0
IsNoFirst first at = IsEmptyFirst first at ⊎ (IsWrongFirst first at ⊎ IsUnfitFirst first at)

pub record IsBadFirst (batches : List Bytes) (at : ℕ) : Type 0 where
  pub first : Bytes
  pub later : List Bytes
  pub batches_are : batches ≡ first ∷ later
  pub bad : IsNoFirst first at

-- a later batch has a record that is wrong
pub record IsBadLater (batches : List Bytes) (at : ℕ) : Type 0 where
  pub first : Bytes
  pub front : List Bytes
  pub bytes : Bytes
  pub rest : List Bytes
  pub batches_are : batches ≡ first ∷ (front ++ bytes ∷ rest)
  pub begun : Logged
  pub begins : Begins first begun
  pub old : Logged
  pub so_far : AddAll begun front old
  pub place : ℕ
  pub bad : HasBadRecord old bytes place
  pub here : at ≡ offset (first ∷ front) place

abbrev pub HasBadBatch : List Bytes → ℕ → Type 0
HasBadBatch batches at = IsBadFirst batches at ⊎ IsBadLater batches at

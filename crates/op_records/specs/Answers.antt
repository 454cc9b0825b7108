-- What a call answered, and the reading that its definition gives: they are the same, unless memory ran out.
use Rattle.std.specs.Prelude.{◌≡◌, ◌≤◌, ℕ, length, Result, Ok, Err}
use Rattle.std.specs.Global.{Vec}
use Rattle.js_base.specs.Bytes.{Bytes}
use Rattle.op_records.specs.Reading.{AreRecords, IsWrong}
use Rattle.op_records.specs.Steps.{Reading}
use Rattle.op_records.specs.declared.fault.RecordFault.{RecordFault}
use Rattle.op_records.specs.declared.fault.RecordFault.TheVariants.{Cut, BadKind, BadField, NoMemory as OutOfMemory}
use Rattle.op_records.specs.declared.reader.Reader.{Reader}
use Rattle.op_records.specs.declared.record.Record.{Record}

-- the reader stands within its bytes
abbrev pub IsWithin : Reader → Type 0
IsWithin reader = reader.at ≤ length reader.bytes.now

-- it reads the same bytes, and stands behind where it stood, or there
pub record IsBehind (old new : Reader) : Type 0 where
  pub bytes : new.bytes ≡ old.bytes
  pub further : old.at ≤ new.at
  pub within : IsWithin new

-- the reading has this fault, or memory ran out
abbrev pub IsFaultOf : {A : Type 0} → Reading A → RecordFault → Type 0
IsFaultOf reading (Cut at) = reading ≡ Err (Cut at)
IsFaultOf reading (BadKind at) = reading ≡ Err (BadKind at)
IsFaultOf reading (BadField at) = reading ≡ Err (BadField at)
IsFaultOf reading OutOfMemory = Unit {0}

-- what was read, and the reader behind it
abbrev pub Reads : {A : Type 0} → Result A RecordFault → Reader → Reading A → Type 0
Reads (Ok a) behind reading = reading ≡ Ok (a, behind.at)
Reads (Err fault) behind reading = IsFaultOf reading fault

-- what stands at a place, and the place behind it
abbrev pub ReadsAt : {A : Type 0} → Result (A × ℕ) RecordFault → Reading A → Type 0
ReadsAt (Ok read) reading = reading ≡ Ok read
ReadsAt (Err fault) reading = IsFaultOf reading fault

-- the first record that is wrong has this fault, or memory ran out
abbrev pub IsWrongBy : Bytes → RecordFault → Type 0
IsWrongBy bytes (Cut at) = IsWrong bytes (Cut at)
IsWrongBy bytes (BadKind at) = IsWrong bytes (BadKind at)
IsWrongBy bytes (BadField at) = IsWrong bytes (BadField at)
IsWrongBy bytes OutOfMemory = Unit {0}

-- the bytes are these records, or the first that is wrong is told
abbrev pub ReadsRecords : Result (Vec Record) RecordFault → Bytes → Type 0
ReadsRecords (Ok records) bytes = AreRecords bytes records.items
ReadsRecords (Err fault) bytes = IsWrongBy bytes fault

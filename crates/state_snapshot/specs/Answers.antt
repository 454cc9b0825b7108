-- What a call answered of a snapshot, and the reading that its definition gives.
use Rattle.std.specs.Prelude.{◌≡◌, length, Result, Ok, Err}
use Rattle.js_base.specs.Bytes.{Bytes}
use Rattle.op_records.specs.Answers.{IsFaultOf}
use Rattle.op_records.specs.declared.fault.RecordFault.{RecordFault}
use Rattle.state_snapshot.specs.Reading.{snapshot_field}
use Rattle.state_snapshot.specs.declared.snapshot.Snapshot.{Snapshot}

-- the bytes are this snapshot, or have this fault, or memory ran out
abbrev pub ReadsSnapshot : Result Snapshot RecordFault → Bytes → Type 0
ReadsSnapshot (Ok snapshot) bytes = snapshot_field bytes 0 ≡ Ok (snapshot, length bytes)
ReadsSnapshot (Err fault) bytes = IsFaultOf (snapshot_field bytes 0) fault

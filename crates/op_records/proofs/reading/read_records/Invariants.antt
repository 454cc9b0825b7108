use Rattle.std.proofs.Common.{◌≡◌, ◌≤◌, ◌-◌, length}
use Rattle.op_records.specs.Reading.{Stand}
use Rattle.op_records.proofs.reading.read_records.Given as goal

-- the records so far stand before the reader, one behind the other
abbrev pub invariant-loop-reader : goal.invariant-loop-reader
invariant-loop-reader l = record {
  bytes : l.reader.bytes.now ≡ l.bytes;
  stand : Stand l.bytes 0 l.records l.reader.at;
  within : l.reader.at ≤ length l.bytes;
}

abbrev pub decreases-loop-reader : goal.decreases-loop-reader
decreases-loop-reader l = length l.bytes - l.reader.at

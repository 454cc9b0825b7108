use Rattle.std.proofs.Common.{◌≡◌, ◌-◌}
use Rattle.op_records.specs.Answers.{IsBehind}
use Rattle.op_records.specs.Fields.{list_fields}
use Rattle.op_records.proofs.Loops.{with_front}
use Rattle.state_snapshot.proofs.entry.read_list.Given as goal

-- the entries so far, and those that are still read, are all of them
abbrev pub invariant-loop : goal.invariant-loop
invariant-loop g l = record {
  behind : IsBehind l.initial.reader l.reader;
  so_far : with_front l.entries (list_fields g.T.Entry.field (l.count - l.counter) l.initial.reader.bytes.now l.reader.at) ≡ list_fields g.T.Entry.field l.count l.initial.reader.bytes.now l.initial.reader.at;
}

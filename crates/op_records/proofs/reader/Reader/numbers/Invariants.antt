use Rattle.std.proofs.Common.{◌≡◌, ◌-◌}
use Rattle.op_records.specs.Fields.{number_field, list_fields}
use Rattle.op_records.specs.Answers.{IsBehind}
use Rattle.op_records.proofs.Loops.{with_front}
use Rattle.op_records.proofs.reader.Reader.numbers.Given as goal

-- the numbers so far, and those that are still read, are all of them
abbrev pub invariant-loop : goal.invariant-loop
invariant-loop l = record {
  behind : IsBehind l.initial.self l.self;
  so_far : with_front l.numbers (list_fields number_field (l.count - l.counter) l.initial.self.bytes.now l.self.at) ≡ list_fields number_field l.count l.initial.self.bytes.now l.initial.self.at;
}

use Rattle.std.proofs.Common.{◌≡◌}
use Rattle.nats_frames.specs.Decoding.{total}
use Rattle.bench_program.proofs.Counted.{Taking}
use Rattle.bench_program.proofs.decoding.take_all.Given as goal

-- so many operations were taken off
abbrev pub invariant-loop-count : goal.invariant-loop-count
invariant-loop-count l = record {
  taking : Taking l.count l.fn.decoder.bytes l.decoder.bytes;
  total : total l.decoder ≡ total l.fn.decoder;
}

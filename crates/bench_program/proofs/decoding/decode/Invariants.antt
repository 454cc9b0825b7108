use Rattle.std.proofs.Common.{length}
use Rattle.bench_program.proofs.Counted.{Fed}
use Rattle.bench_program.proofs.decoding.decode.Given as goal

-- a prefix of the input was fed, and so many operations were taken off it
abbrev pub invariant-loop-rest : goal.invariant-loop-rest
invariant-loop-rest l = Fed l.operations l.input l.rest l.decoder

abbrev pub decreases-loop-rest : goal.decreases-loop-rest
decreases-loop-rest l = length l.rest

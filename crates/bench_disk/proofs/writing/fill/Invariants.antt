use Rattle.std.specs.Prelude.{IsSome}
use Rattle.bench_disk.proofs.writing.fill.Given as goal

-- batches may be appended
abbrev pub invariant-loop : goal.invariant-loop
invariant-loop l = IsSome l.growing.log.head

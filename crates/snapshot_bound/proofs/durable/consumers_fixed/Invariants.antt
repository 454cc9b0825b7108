use Rattle.std.proofs.Common.{◌≡◌, take}
use Rattle.std.specs.Prelude.{sum_by}
use Rattle.snapshot_bound.specs.Bounds.{capped, consumer_fixed}
use Rattle.snapshot_bound.proofs.durable.consumers_fixed.Given as goal

abbrev pub invariant-loop-consumer : goal.invariant-loop-consumer
invariant-loop-consumer l = l.sum ≡ capped (sum_by consumer_fixed (take l.consumer-index l.consumers))

use Rattle.std.proofs.Common.{◌≡◌, ◌++◌, length}
use Rattle.log_replay.proofs.listing.consumers_of.Given as goal

abbrev pub invariant-loop-consumer : goal.invariant-loop-consumer
invariant-loop-consumer l = l.consumers ++ l.left.items ≡ l.fn.replayed.items

abbrev pub decreases-loop-consumer : goal.decreases-loop-consumer
decreases-loop-consumer l = length l.left.items

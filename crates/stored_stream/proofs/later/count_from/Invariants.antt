use Rattle.std.proofs.Common.{◌+◌, ◌-◌}
use Rattle.stored_stream.proofs.Latest.{IsCounting}
use Rattle.stored_stream.proofs.later.count_from.Given as goal

abbrev pub invariant-loop-message : goal.invariant-loop-message
invariant-loop-message l = IsCounting l.stored.messages l.first l.from l.count

abbrev pub decreases-loop-message : goal.decreases-loop-message
decreases-loop-message l = l.stored.last + 1 - l.from

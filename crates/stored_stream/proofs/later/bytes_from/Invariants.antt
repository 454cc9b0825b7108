use Rattle.std.proofs.Common.{◌+◌, ◌-◌}
use Rattle.stored_stream.proofs.Latest.{IsSumming}
use Rattle.stored_stream.proofs.later.bytes_from.Given as goal

abbrev pub invariant-loop-head : goal.invariant-loop-head
invariant-loop-head l = IsSumming l.stored.messages l.first l.from l.bytes

abbrev pub decreases-loop-head : goal.decreases-loop-head
decreases-loop-head l = l.stored.last + 1 - l.from

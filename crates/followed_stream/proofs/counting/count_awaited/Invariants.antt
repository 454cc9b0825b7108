use Rattle.std.proofs.Common.{◌+◌, ◌-◌}
use Rattle.followed_stream.proofs.Counts.{IsCountTo}
use Rattle.followed_stream.proofs.Holding.{awaits_it}
use Rattle.followed_stream.proofs.counting.count_awaited.Given as goal

abbrev pub invariant-loop-message : goal.invariant-loop-message
invariant-loop-message l = IsCountTo (awaits_it l.consumer) l.stored.messages l.from l.count

abbrev pub decreases-loop-message : goal.decreases-loop-message
decreases-loop-message l = l.stored.last + 1 - l.from

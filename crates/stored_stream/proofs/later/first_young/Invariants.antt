use Rattle.std.proofs.Common.{◌+◌, ◌-◌}
use Rattle.stored_stream.proofs.Latest.{AreOldBefore}
use Rattle.stored_stream.proofs.later.first_young.Given as goal

abbrev pub invariant-loop-message : goal.invariant-loop-message
invariant-loop-message l = AreOldBefore l.stored.config.max_age l.now l.stored.messages l.from

abbrev pub decreases-loop-message : goal.decreases-loop-message
decreases-loop-message l = l.stored.last + 1 - l.from

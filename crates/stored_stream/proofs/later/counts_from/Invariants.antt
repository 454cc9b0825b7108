use Rattle.std.proofs.Common.{◌+◌, ◌-◌}
use Rattle.stored_stream.proofs.Latest.{IsTelling}
use Rattle.stored_stream.proofs.later.counts_from.Given as goal

abbrev pub invariant-loop-message : goal.invariant-loop-message
invariant-loop-message l = IsTelling l.stored.messages l.subject l.first l.from l.found

abbrev pub decreases-loop-message : goal.decreases-loop-message
decreases-loop-message l = l.stored.last + 1 - l.from

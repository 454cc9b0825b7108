use Rattle.std.proofs.Common.{◌≡◌, ◌+◌, ◌-◌}
use Rattle.retention.specs.Over.{is_over_on}
use Rattle.stored_stream.specs.Selecting.{next_passing}
use Rattle.stored_stream.proofs.crowding.first_crowded.Given as goal

abbrev pub invariant-loop-message : goal.invariant-loop-message
invariant-loop-message l =
    next_passing (λ m. is_over_on l.stream m.subject) l.stream.messages l.from ≡ next_passing (λ m. is_over_on l.stream m.subject) l.stream.messages l.initial.from

abbrev pub decreases-loop-message : goal.decreases-loop-message
decreases-loop-message l = l.stream.last + 1 - l.from

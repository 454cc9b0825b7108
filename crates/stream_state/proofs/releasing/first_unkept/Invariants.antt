use Rattle.std.proofs.Common.{◌≡◌, ◌+◌, ◌-◌}
use Rattle.stored_stream.specs.Selecting.{next_passing}
use Rattle.stream_state.proofs.Unkept.{is_loose}
use Rattle.stream_state.proofs.releasing.first_unkept.Given as goal

abbrev pub invariant-loop-message : goal.invariant-loop-message
invariant-loop-message l = next_passing (is_loose l.stream l.last) l.stream.messages l.from ≡ next_passing (is_loose l.stream l.last) l.stream.messages l.initial.from

abbrev pub decreases-loop-message : goal.decreases-loop-message
decreases-loop-message l = l.stream.last + 1 - l.from

use Rattle.std.proofs.Common.{◌-◌}
use Rattle.consumer_state.specs.Before.{is_again}
use Rattle.consumer_state.proofs.Rests.{IsSearched}
use Rattle.consumer_state.proofs.consumer.Consumer.has_again.Given as goal

-- no delivery so far is due again
abbrev pub invariant-loop-from : goal.invariant-loop-from
invariant-loop-from g l = IsSearched (λ p. p.seq) (is_again (g.W.View.stream l.stream) l.self) l.self.pending l.from

abbrev pub decreases-loop-from : goal.decreases-loop-from
decreases-loop-from g l = l.cursor - l.from

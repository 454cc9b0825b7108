use Rattle.std.proofs.Common.{◌-◌}
use Rattle.consumer_state.specs.Before.{stays}
use Rattle.consumer_state.proofs.Rests.{IsCounted}
use Rattle.consumer_state.proofs.consumer.Consumer.count_staying.Given as goal

-- so many deliveries so far go on to wait
abbrev pub invariant-loop-from : goal.invariant-loop-from
invariant-loop-from g l = IsCounted (λ p. p.seq) (stays (g.W.View.stream l.stream) l.self) l.self.pending l.count l.from

abbrev pub decreases-loop-from : goal.decreases-loop-from
decreases-loop-from g l = l.cursor - l.from

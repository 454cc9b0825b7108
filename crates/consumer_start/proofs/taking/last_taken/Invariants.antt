use Rattle.js_model.specs.Streams.{passes_filter}
use Rattle.consumer_start.specs.Taking.{last_taken}
use Rattle.consumer_start.proofs.WalksBack.{IsBackWalk}
use Rattle.consumer_start.proofs.taking.last_taken.Given as goal

abbrev pub invariant-loop-below : goal.invariant-loop-below
invariant-loop-below g l = IsBackWalk (λ m. passes_filter l.filter m.subject) (g.W.View.stream l.stream) (last_taken l.filter (g.W.View.stream l.stream)) l.below

abbrev pub decreases-loop-below : goal.decreases-loop-below
decreases-loop-below g l = l.below

use Rattle.std.proofs.Common.{◌+◌, ◌-◌}
use Rattle.js_model.specs.Streams.{passes_filter}
use Rattle.consumer_start.specs.Taking.{next_taken}
use Rattle.consumer_start.proofs.Walks.{IsWalk}
use Rattle.consumer_start.proofs.taking.next_taken.Given as goal

abbrev pub invariant-loop-seq : goal.invariant-loop-seq
invariant-loop-seq g l = IsWalk (λ m. passes_filter l.filter m.subject) (g.W.View.stream l.stream) (next_taken l.filter (g.W.View.stream l.stream) l.from) l.seq

-- proposed from the loop's first test
abbrev pub decreases-loop-seq : goal.decreases-loop-seq
decreases-loop-seq g l = l.last + 1 - l.seq

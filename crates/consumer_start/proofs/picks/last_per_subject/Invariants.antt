use Rattle.std.proofs.Common.{◌+◌, ◌-◌}
use Rattle.consumer_start.proofs.Picking.{IsPicked}
use Rattle.consumer_start.proofs.picks.last_per_subject.Given as goal

abbrev pub invariant-loop-seq : goal.invariant-loop-seq
invariant-loop-seq g l = IsPicked (g.W.View.stream l.stream) l.filter l.seq l.picks

-- proposed from the loop's first test
abbrev pub decreases-loop-seq : goal.decreases-loop-seq
decreases-loop-seq g l = l.last + 1 - l.seq

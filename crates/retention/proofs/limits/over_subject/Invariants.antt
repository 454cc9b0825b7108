use Rattle.retention.proofs.Walking.{IsAhead}
use Rattle.std.proofs.Common.{◌+◌, ◌-◌}
use Rattle.retention.proofs.limits.over_subject.Given as goal

abbrev pub invariant-loop-seq : goal.invariant-loop-seq
invariant-loop-seq g l = IsAhead (g.W.View.stream l.view) l.seq

-- proposed from the loop's first test
abbrev pub decreases-loop-seq : goal.decreases-loop-seq
decreases-loop-seq g l = l.last + 1 - l.seq

use Rattle.std.proofs.Common.{◌+◌, ◌-◌}
use Rattle.std.specs.Prelude.{find, nat_le, option_map}
use Rattle.consumer_start.proofs.Walks.{IsWalk}
use Rattle.consumer_start.proofs.cursor.first_since.Given as goal

abbrev pub invariant-loop-seq : goal.invariant-loop-seq
invariant-loop-seq g l = IsWalk (λ m. nat_le l.at m.at) (g.W.View.stream l.stream) (option_map (λ m. m.seq) (find (λ m. nat_le l.at m.at) (g.W.View.stream l.stream).messages)) l.seq

-- proposed from the loop's first test
abbrev pub decreases-loop-seq : goal.decreases-loop-seq
decreases-loop-seq g l = l.last + 1 - l.seq

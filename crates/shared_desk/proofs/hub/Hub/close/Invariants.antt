use Rattle.std.proofs.Common.{vec_len}
use Rattle.shared_desk.proofs.Passing.{ArePassesJoined}
use Rattle.shared_desk.proofs.hub.Hub.close.Given as goal

-- the passes behind the others became one
abbrev pub invariant-loop-self : goal.invariant-loop-self
invariant-loop-self g l = ArePassesJoined l.fn.self l.fn.passes.items l.passes.items l.all

abbrev pub decreases-loop-self : goal.decreases-loop-self
decreases-loop-self g l = vec_len l.passes

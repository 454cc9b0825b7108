use Rattle.std.proofs.Common.{length}
use Rattle.turn_lock.specs.Calls.{IsJoined}
use Rattle.shared_desk.proofs.Seats.{TakesThird}
use Rattle.shared_desk.proofs.hub.Hub.join_rows.Given as goal

-- the seats of the last places became one, and the others of the first places are to come
abbrev pub invariant-loop-others : goal.invariant-loop-others
invariant-loop-others g l = TakesThird IsJoined l.self.places l.fn.ones.items l.fn.others.items l.ones.items l.others.items

abbrev pub decreases-loop-others : goal.decreases-loop-others
decreases-loop-others g l = length l.others.items

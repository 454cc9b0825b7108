use Rattle.stored_stream.proofs.Latest.{seen_order}
use Rattle.stored_stream.proofs.later.LaterStreamView.last.Goals as goal

pub returns-clause-order : goal.returns-clause-order
returns-clause-order c = let i = c.self.inside in rw (← c.self.view_is) (seen_order i.stored.now i.now i.first c.self.invariant)

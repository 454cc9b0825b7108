use Rattle.std.proofs.Common.{◌==◌, ◌∙◌}
use Rattle.pending_table.proofs.Moved.{some_any}
use Rattle.pending_table.proofs.table.PendingTable.ack.Goals as goal

pub returns-clause-was : goal.returns-clause-was
returns-clause-was c = c.is_some.ensures ∙ some_any (λ p. p.seq == c.args.seq) c.args.self.now c.take.result c.take.ensures.taken

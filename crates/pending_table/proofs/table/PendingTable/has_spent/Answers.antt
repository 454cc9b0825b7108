use Rattle.std.proofs.Common.{◌∙◌}
use Rattle.pending_table.specs.Asked.{is_spent}
use Rattle.pending_table.specs.Trees.{entries}
use Rattle.pending_table.proofs.Changed.{found_any}
use Rattle.pending_table.proofs.table.PendingTable.has_spent.Goals as goal

pub returns : goal.returns
returns c = record { value = rw (← c.self.view_is) (c.is_some.ensures ∙ found_any (is_spent c.args.now c.args.max) (entries c.self.inside.tree) c.first.result c.first.ensures.value) }

use Rattle.pending_table.proofs.Around.{ordered}
use Rattle.pending_table.proofs.table.PendingTable.first.Goals as goal

pub at_or_after-requires : goal.at_or_after-requires
at_or_after-requires c = record { ordered = ordered c.self.inside.tree c.self.invariant.ascending }

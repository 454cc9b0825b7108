use Rattle.pending_table.proofs.Around.{ordered}
use Rattle.pending_table.proofs.table.PendingTable.get.Goals as goal

pub get-requires : goal.get-requires
get-requires c = record { ordered = ordered c.self.inside.tree c.self.invariant.ascending }

use Rattle.route_index.proofs.Naming.{sets_here}
use Rattle.route_index.proofs.identifiers.Identifiers.remove.Goals as goal

pub returns-clause-some : goal.returns-clause-some
returns-clause-some c = record { sets = sets_here _ _ _ _ c.remove.ensures.updates; count = c.in_ok-number.ensures.len }

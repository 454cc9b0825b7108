use Rattle.seat_laws.proofs.Runs.{routes}
use Rattle.seat_laws.proofs.laws.law_routes.Goals as goal

pub returns : goal.returns
returns c = record { law = routes }

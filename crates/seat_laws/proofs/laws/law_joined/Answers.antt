use Rattle.seat_laws.proofs.Runs.{joined, cut}
use Rattle.seat_laws.proofs.laws.law_joined.Goals as goal

pub returns : goal.returns
returns c = record { law = joined; cut = cut }

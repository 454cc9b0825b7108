use Rattle.seat_laws.proofs.Owned.{stays}
use Rattle.seat_laws.proofs.laws.law_stays.Goals as goal

pub returns : goal.returns
returns c = record { law = stays }

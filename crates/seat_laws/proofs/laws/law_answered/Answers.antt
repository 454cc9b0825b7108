use Rattle.seat_laws.proofs.Answered.{answered}
use Rattle.seat_laws.proofs.laws.law_answered.Goals as goal

pub returns : goal.returns
returns c = record { law = answered }

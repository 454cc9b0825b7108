use Rattle.timer_laws.proofs.Resting.{law_rest}
use Rattle.timer_laws.proofs.Served.{law_served}
use Rattle.timer_laws.proofs.laws.law_rest.Goals as goal

pub returns : goal.returns
returns c = record { law = law_rest; served = law_served }

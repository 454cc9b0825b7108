use Rattle.timer_laws.proofs.Firing.{law_firing}
use Rattle.timer_laws.proofs.laws.law_firing.Goals as goal

pub returns : goal.returns
returns c = record { law = law_firing }

use Rattle.timer_laws.proofs.Idle.{law_idle, law_idle_before}
use Rattle.timer_laws.proofs.laws.law_idle.Goals as goal

pub returns : goal.returns
returns c = record { law = law_idle; before = law_idle_before }

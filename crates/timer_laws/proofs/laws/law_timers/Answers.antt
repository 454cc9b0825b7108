use Rattle.timer_laws.proofs.Passing.{law_timers}
use Rattle.timer_laws.proofs.Readiness.{law_readiness, law_ticked}
use Rattle.timer_laws.proofs.laws.law_timers.Goals as goal

pub returns : goal.returns
returns c = record { law = law_timers; readiness = law_readiness; ticked = law_ticked }

use Rattle.desk_hold.proofs.Followed.{unsaid_step}
use Rattle.desk_hold.proofs.holding.follow_step.Goals as goal

pub returns-then-unsaid-clause-follows : goal.returns-then-unsaid-clause-follows
returns-then-unsaid-clause-follows g c = λ seat at. unsaid_step g.R.Port.routes g.R.Port.worn g.P.Place.holds seat at _ _ _ _ _ c.law_kept.ensures.kept c.requires.going c.failed.ensures.value

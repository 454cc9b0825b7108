use Rattle.session.proofs.Carried.{carries, carries_stop}
use Rattle.session.proofs.operation.carry.Goals as goal

pub returns-in-Err-clause-carries : goal.returns-in-Err-clause-carries
returns-in-Err-clause-carries g c = carries_stop _ _ _ _ _ _ _ _ c.in-Err.stop c.in-Err.ensures.asks

pub returns-in-Ok-clause-carries : goal.returns-in-Ok-clause-carries
returns-in-Ok-clause-carries g c =
    carries _ g.met.D.Desk.made_more _ _ _ _ _ _ _ _ _ c.gather.result _ c.ask.new.manners c.in-Ok.ensures.asks c.in-Ok.ensures.peer c.gather.ensures.gathers

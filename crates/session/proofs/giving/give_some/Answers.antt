use Rattle.session.proofs.Failed.{call_passes, call_starves, give_fails}
use Rattle.session.proofs.giving.give_some.Goals as goal

pub returns-in-Gave-clause-failings : goal.returns-in-Gave-clause-failings
returns-in-Gave-clause-failings g c = call_passes _ _ c.in-Gave.ensures.failings

pub returns-in-Failed-clause-failings : goal.returns-in-Failed-clause-failings
returns-in-Failed-clause-failings g c = give_fails _ _ c.in-Failed.ensures.failings

pub returns-in-NoMemory-clause-failings : goal.returns-in-NoMemory-clause-failings
returns-in-NoMemory-clause-failings g c = call_starves _ _ c.in-NoMemory.ensures.failings

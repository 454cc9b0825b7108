use Rattle.session.proofs.Gathered.{settle_ends, settled_whole, settled_cut}
use Rattle.session.proofs.gathering.settle_once.Goals as goal

pub returns-in-Ok-collect_all-clause-settles : goal.returns-in-Ok-collect_all-clause-settles
returns-in-Ok-collect_all-clause-settles g c =
    settled_whole _ g.met.D.Desk.made_more _ _ _ _ _ _ _ _ _ c.in-Ok.ensures.client c.in-Ok.ensures.made c.in-Ok-collect_all.ensures.collects

pub returns-in-Err-collect_all-clause-settles : goal.returns-in-Err-collect_all-clause-settles
returns-in-Err-collect_all-clause-settles g c =
    settled_cut _ g.met.D.Desk.made_more _ _ _ _ _ _ _ _ c.in-Err-collect_all.stop _ c.in-Ok.ensures.client c.in-Ok.ensures.made c.in-Err-collect_all.ensures.collects

pub returns-in-Err-clause-settles : goal.returns-in-Err-clause-settles
returns-in-Err-clause-settles g c = settle_ends _ _ _ c.from.result _ _ _ _ c.in-Err.ensures.made c.from.ensures

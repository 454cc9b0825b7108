use Rattle.session.proofs.Served.{served, unserved}
use Rattle.session.proofs.session.serve_link.Goals as goal

pub returns-in-Ok-clause-serves : goal.returns-in-Ok-clause-serves
returns-in-Ok-clause-serves g c =
    let k = c.converse-ended.ensures in
    served _ g.met.D.Desk.made_more _ _ (g.D.Desk.client c.args.desk.now) (g.D.Desk.client c.converse-ended.new.desk) _ _ _ _ _ _ _ _ _ _ _ _ _ _ c.in-Ok.ensures.made k.converses
    k.session k.is_open c.close.ensures.made

pub returns-in-Err-clause-serves : goal.returns-in-Err-clause-serves
returns-in-Err-clause-serves g c =
    unserved _ _ (g.D.Desk.client c.args.desk.now) c.in-Err.fault _ _ _ _ _ (g.L.Link.failings c.args.link.now) _ c.in-Err.ensures.made c.from.ensures

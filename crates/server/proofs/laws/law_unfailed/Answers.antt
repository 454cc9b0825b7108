use Rattle.server.proofs.Readable.{may_open}
use Rattle.server.proofs.Unfailed.{unfailed}
use Rattle.server.proofs.laws.law_unfailed.Goals as goal

pub returns : goal.returns
returns g c =
    let p = g.P.Place in
    let m = g.met.P.Place in
    record {
      readable = may_open p.seen p.vol p.holds p.reads p.left p.clock p.faults p.room_causes p.base p.opens p.refuses p.keeps_vol m.holds_one m.opens_read m.refuses_read;
      unfailed = unfailed p.seen p.vol p.holds p.reads p.left p.clock p.faults p.room_causes p.base p.opens p.refuses p.keeps_vol m.keeps_none m.keeps_more m.stands m.keeps_later;
    }

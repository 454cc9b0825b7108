use Rattle.std.proofs.Common.{arith}
use Rattle.desk_places.proofs.Opening.{fails_at}
use Rattle.desk_places.proofs.volumes.open_places.Goals as goal

pub returns-in-Err-clause-err : goal.returns-in-Err-clause-err
returns-in-Err-clause-err g c =
    let P = g.P.Place in
    fails_at P.seen P.vol P.holds P.reads P.left P.clock P.faults P.room_causes P.base P.opens P.refuses P.keeps_vol g.met.P.Place.bases g.met.P.Place.leaves g.met.P.Place.earlier g.met.P.Place.stands
    c.args.vols.items c.reverse.new.self.items c.open_each.new.vols.items c.push_reserved.new.self.items c.give_back.new.vols.items c.open_each.new.places.items c.len-place.result c.in-Err.fault c.in-Err.vol
    c.reverse.ensures.items c.in-Err.ensures.stopped (omega (arith, c.len-place.ensures, c.open_each.new.places.ok.0)) c.push_reserved.ensures.items c.give_back.ensures.given

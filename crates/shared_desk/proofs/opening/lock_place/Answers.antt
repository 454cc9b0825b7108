use Rattle.shared_desk.proofs.NewPlaces.{new_place}
use Rattle.shared_desk.proofs.opening.lock_place.Goals as goal

pub of-requires-clause-opened : goal.of-requires-clause-opened
of-requires-clause-opened g c =
    let P = g.P.Place in
    new_place P.seen P.vol P.holds P.reads P.left P.clock P.faults P.room_causes P.base P.opens P.refuses P.keeps_vol g.met.P.Place.bases g.met.P.Place.leaves g.met.P.Place.earlier g.met.P.Place.stands
    c.args.place c.law_kept.ensures.kept c.requires.opened

use Rattle.server.proofs.Keeping.{kept}
use Rattle.server.proofs.laws.law_kept.Goals as goal

pub returns : goal.returns
returns g c = record {
  kept = kept g.P.Place.seen g.P.Place.vol g.P.Place.holds g.P.Place.reads g.P.Place.left g.P.Place.clock g.P.Place.faults g.P.Place.room_causes g.P.Place.base g.P.Place.opens g.P.Place.refuses g.P.Place.keeps_vol
      g.met.P.Place.keeps_none g.met.P.Place.keeps_more;
}

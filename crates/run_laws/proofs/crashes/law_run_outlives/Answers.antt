use Rattle.run_laws.proofs.Outliving.{outlives}
use Rattle.run_laws.proofs.crashes.law_run_outlives.Goals as goal

pub returns : goal.returns
returns g c = record {
  law = outlives g.P.Place.seen g.P.Place.vol g.P.Place.holds g.P.Place.reads g.P.Place.left g.P.Place.clock g.P.Place.faults g.P.Place.room_causes g.P.Place.base g.P.Place.opens g.P.Place.refuses g.P.Place.keeps_vol
      c.law_outlasting.ensures.law c.law_opened.ensures.law;
}

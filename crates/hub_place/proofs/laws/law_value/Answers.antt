use Rattle.hub_place.proofs.Values.{value_keeps}
use Rattle.hub_place.proofs.laws.law_value.Goals as goal

pub returns : goal.returns
returns g c = record { law = value_keeps g.P.Place.holds g.P.Place.left g.P.Place.clock g.P.Place.base g.P.Place.keeps_vol c.law_opened.ensures.law }

use Rattle.std.proofs.Common.{map, refl}
use Rattle.desk_places.specs.Places.{places_by}
use Rattle.js_desk.specs.Kept.{kept_none}
use Rattle.js_desk.specs.Outlasting.{outlast_none}
use Rattle.js_desk.proofs.Looked.{ended_grounded}
use Rattle.js_desk.proofs.solo_ground.SoloGroundGround.end.Goals as goal

pub invariant_of-self : goal.invariant_of-self
invariant_of-self g c = ended_grounded _ _ _ _ (rw (← c.self.view_is) at c.requires.turn) c.self.invariant

pub returns-clause-made : goal.returns-clause-made
returns-clause-made g c =
    let P = g.P.Place in
    let row = c.self.inside.places.items in
    rw (← c.self.view_is) (refl, kept_none P.keeps_vol g.met.P.Place.keeps_none (map P.vol row), outlast_none P.holds P.left P.clock P.base g.met.P.Place.earlier (record { places = places_by P.seen row; vols = map P.vol row }), tt)

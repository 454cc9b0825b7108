use Rattle.std.proofs.Common.{map}
use Rattle.desk_places.specs.Places.{places_by}
use Rattle.js_desk.proofs.Routed.{opened_opens, opened_so}
use Rattle.js_desk.proofs.solo_ground.SoloGroundGround.open.Goals as goal

pub returns-clause-made : goal.returns-clause-made
returns-clause-made g c = rw c.desk_answer.ensures.value (rw (← c.self.view_is) (opened_so _ g.met.P.Place.keeps_none _ _ _ _ g.P.Place.room_causes.outgrows_log g.met.P.Place.earlier c.self.inside.router c.open.new.self c.self.inside.catalog (places_by g.P.Place.seen c.self.inside.places.items) (map g.P.Place.vol c.self.inside.places.items) c.self.inside.ticked c.self.inside.last c.self.inside.turn c.open.result c.open.ensures.routes))

pub returns-clause-opens : goal.returns-clause-opens
returns-clause-opens g c = rw c.desk_answer.ensures.value (opened_opens c.open.new.self c.open.result c.open.ensures.opens)

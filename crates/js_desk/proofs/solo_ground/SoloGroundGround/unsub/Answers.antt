use Rattle.std.proofs.Common.{map}
use Rattle.desk_places.specs.Places.{places_by}
use Rattle.js_desk.proofs.Routed.{same_setting, unsubscribed_so}
use Rattle.js_desk.proofs.solo_ground.SoloGroundGround.unsub.Goals as goal

pub returns-clause-made : goal.returns-clause-made
returns-clause-made g c = rw c.desk_answer.ensures.value (rw (← c.self.view_is) (unsubscribed_so _ g.met.P.Place.keeps_none _ _ _ _ g.P.Place.room_causes.outgrows_log g.met.P.Place.earlier c.self.inside.router c.unsub.new.self c.self.inside.catalog (places_by g.P.Place.seen c.self.inside.places.items) (map g.P.Place.vol c.self.inside.places.items) c.self.inside.ticked c.self.inside.last c.self.inside.turn c.args.session c.args.sid.now c.args.max c.unsub.result (rw (← c.self.view_is) at c.requires.open) c.unsub.ensures.routes))

pub returns-clause-setting : goal.returns-clause-setting
returns-clause-setting g c = rw (← c.self.view_is) (same_setting c.self.inside.router c.unsub.new.self c.self.inside.catalog (places_by g.P.Place.seen c.self.inside.places.items) (map g.P.Place.vol c.self.inside.places.items) c.self.inside.ticked c.self.inside.last c.self.inside.turn c.unsub.ensures.stay)

use Rattle.std.proofs.Common.{Ok, refl}
use Rattle.js_model.specs.Router as routes
use Rattle.js_api.specs.Answering.{Done}
use Rattle.std.proofs.Common.{map}
use Rattle.desk_places.specs.Places.{places_by}
use Rattle.js_desk.proofs.Routed.{routes_so, same_setting}
use Rattle.js_desk.proofs.solo_ground.SoloGroundGround.options.Goals as goal

pub returns-clause-made : goal.returns-clause-made
returns-clause-made g c = rw (← c.self.view_is) (routes_so _ g.met.P.Place.keeps_none _ _ _ _ g.P.Place.room_causes.outgrows_log g.met.P.Place.earlier c.self.inside.router c.options.new.self c.self.inside.catalog (places_by g.P.Place.seen c.self.inside.places.items) (map g.P.Place.vol c.self.inside.places.items) c.self.inside.ticked c.self.inside.last c.self.inside.turn (routes.Options c.args.session c.args.echo c.args.headers) routes.Done (Ok Done) c.options.ensures.routes tt refl)

pub returns-clause-setting : goal.returns-clause-setting
returns-clause-setting g c = rw (← c.self.view_is) (same_setting c.self.inside.router c.options.new.self c.self.inside.catalog (places_by g.P.Place.seen c.self.inside.places.items) (map g.P.Place.vol c.self.inside.places.items) c.self.inside.ticked c.self.inside.last c.self.inside.turn c.options.ensures.stay)

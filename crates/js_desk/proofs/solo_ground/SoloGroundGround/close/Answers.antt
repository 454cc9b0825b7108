use Rattle.std.proofs.Common.{Ok, refl}
use Rattle.js_model.specs.Router as routes
use Rattle.js_api.specs.Answering.{Done}
use Rattle.js_desk.proofs.Routed.{routes_so}
use Rattle.js_desk.proofs.solo_ground.SoloGroundGround.close.Goals as goal

pub returns-clause-made : goal.returns-clause-made
returns-clause-made g c = rw (← c.self.view_is) (routes_so _ g.met.P.Place.keeps_none _ _ _ _ g.P.Place.room_causes.outgrows_log g.met.P.Place.earlier _ _ _ _ _ _ _ _ (routes.Close c.args.session) routes.Done (Ok Done) c.close.ensures.routes tt refl)

use Rattle.js_model.specs.Router as routes
use Rattle.shared_desk.proofs.Routed.{does_so}
use Rattle.shared_desk.proofs.ground.HubGroundGround.close.Goals as goal

pub returns-clause-made : goal.returns-clause-made
returns-clause-made g c = does_so (routes.Close c.args.session) c.route.result c.args.self.now c.route.new.self c.route.ensures.routed c.route.ensures.worn

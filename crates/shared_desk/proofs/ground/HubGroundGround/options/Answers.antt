use Rattle.js_model.specs.Router as routes
use Rattle.shared_desk.proofs.Routed.{does_so, setting_stays}
use Rattle.shared_desk.proofs.ground.HubGroundGround.options.Goals as goal

pub returns-clause-made : goal.returns-clause-made
returns-clause-made g c = does_so (routes.Options c.args.session c.args.echo c.args.headers) c.route.result c.args.self.now c.route.new.self c.route.ensures.routed c.route.ensures.worn

pub returns-clause-setting : goal.returns-clause-setting
returns-clause-setting g c = setting_stays (routes.Options c.args.session c.args.echo c.args.headers) (λ (answer : Unit {0}). routes.Done) tt c.route.result c.args.self.now c.route.new.self c.route.ensures.routed c.route.ensures.worn

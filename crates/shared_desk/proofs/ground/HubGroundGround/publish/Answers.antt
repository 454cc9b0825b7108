use Rattle.std.proofs.Common.{Result, Some, refl, ℕ}
use Rattle.js_api.specs.declared.fault.DeskFault.{DeskFault}
use Rattle.js_api.specs.Publishing.{Offers}
use Rattle.desk_ground.specs.Callers.{client_of}
use Rattle.js_model.specs.Routing.{publish_told}
use Rattle.js_model.specs.Router as routes
use Rattle.shared_desk.proofs.Routed.{published_so, same_setting, worn_exit}
use Rattle.shared_desk.proofs.ground.HubGroundGround.publish.Goals as goal

pub returns-in_err-route-clause-made : goal.returns-in_err-route-clause-made
returns-in_err-route-clause-made g c = worn_exit _ c.from_residual.result c.args.self.now c.route.new.self c.from_residual.ensures.1 c.in_err-route.ensures.worn (λ (r : Result ℕ DeskFault). Offers (client_of c.args.caller) c.args.message.now r) refl

pub returns-clause-made : goal.returns-clause-made
returns-clause-made g c = rw c.desk_answer.ensures.value (published_so c.args.self.now c.route.new.self c.args.caller c.args.message.now c.in_ok-route.field-0 c.in_ok-route.ensures.routed)

pub returns-clause-setting : goal.returns-clause-setting
returns-clause-setting g c = same_setting (routes.Publish c.args.message.now (Some c.args.caller.session)) (publish_told c.in_ok-route.field-0) c.args.self.now c.route.new.self c.in_ok-route.ensures.routed tt

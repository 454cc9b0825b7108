use Rattle.std.proofs.Common.{Result, inr, refl, ℕ}
use Rattle.js_api.specs.declared.fault.DeskFault.{DeskFault}
use Rattle.turn_lock.specs.Ruled.{last_ticket}
use Rattle.js_api.specs.Calls.{Routes}
use Rattle.js_api.specs.Answering.{opened}
use Rattle.js_model.specs.Router as routes
use Rattle.shared_desk.proofs.Routed.{opened_opens, opened_so, worn_exit}
use Rattle.shared_desk.proofs.ground.HubGroundGround.open.Goals as goal

pub returns-in_err-route-clause-made : goal.returns-in_err-route-clause-made
returns-in_err-route-clause-made g c = worn_exit _ c.from_residual.result c.args.self.now c.route.new.self c.from_residual.ensures.1 c.in_err-route.ensures.worn (λ (r : Result ℕ DeskFault). Routes routes.Open (opened r)) (inr (last_ticket, refl, refl))

pub returns-clause-made : goal.returns-clause-made
returns-clause-made g c = rw c.desk_answer.ensures.value (opened_so c.args.self.now c.route.new.self c.in_ok-route.field-0 c.in_ok-route.ensures.routed)

pub returns-clause-opens : goal.returns-clause-opens
returns-clause-opens g c = rw c.desk_answer.ensures.value (opened_opens c.args.self.now c.route.new.self c.in_ok-route.field-0 c.in_ok-route.ensures.routed)

use Rattle.std.proofs.Common.{Bor, Result, inr, option_map, refl}
use Rattle.js_api.specs.declared.fault.DeskFault.{DeskFault}
use Rattle.turn_lock.specs.Ruled.{last_ticket}
use Rattle.js_api.specs.Calls.{Routes}
use Rattle.js_api.specs.Answering.{done}
use Rattle.js_base.specs.Bytes.{Bytes}
use Rattle.js_model.specs.Routing.{done_told}
use Rattle.js_model.specs.Router as routes
use Rattle.shared_desk.proofs.Routed.{worn_exit, same_setting, subscribed_so}
use Rattle.shared_desk.proofs.ground.HubGroundGround.sub.Goals as goal

pub returns-in_err-route-clause-made : goal.returns-in_err-route-clause-made
returns-in_err-route-clause-made g c = worn_exit _ c.from_residual.result c.args.self.now c.route.new.self c.from_residual.ensures.1 c.in_err-route.ensures.worn (λ (r : Result (Unit {0}) DeskFault). Routes (routes.Sub c.args.session c.args.subject.now (option_map (λ (text : Bor Bytes). text.now) c.args.queue) c.args.sid.now) (done r)) (inr (last_ticket, refl, refl))

pub returns-clause-made : goal.returns-clause-made
returns-clause-made g c = rw c.desk_answer-answer.ensures.value (subscribed_so c.args.self.now c.route.new.self c.args.session c.args.subject.now (option_map (λ (text : Bor Bytes). text.now) c.args.queue) c.args.sid.now c.in_ok-route.field-0 c.in_ok-route.ensures.routed)

pub returns-clause-setting : goal.returns-clause-setting
returns-clause-setting g c = same_setting (routes.Sub c.args.session c.args.subject.now (option_map (λ (text : Bor Bytes). text.now) c.args.queue) c.args.sid.now) (done_told c.in_ok-route.field-0) c.args.self.now c.route.new.self c.in_ok-route.ensures.routed tt

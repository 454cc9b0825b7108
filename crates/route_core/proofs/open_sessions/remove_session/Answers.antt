use Rattle.std.proofs.Common.{rules, tests, not}
use Rattle.std.proofs.lemmas.Fn.{filter_same}
use Rattle.js_model.specs.Router.{is_session}
use Rattle.route_core.proofs.open_sessions.remove_session.Goals as goal

pub returns : goal.returns
returns c = record { left = filter_same _ (λ session. not (is_session c.args.number session)) _ (λ x b f' k. search (rules, tests)) _ _ c.retain.ensures.filtered }

use Rattle.std.proofs.Common.{Err}
use Rattle.js_api.specs.Api.{CarriesOut, TakesByApi}
use Rattle.desk_ground.specs.Callers.{client_of}
use Rattle.desk_ground.proofs.Stages.{goes_on, stops_by}
use Rattle.desk_calls.proofs.publishing.refuse_call.Goals as goal

pub returns-in_err-taken-clause-made : goal.returns-in_err-taken-clause-made
returns-in_err-taken-clause-made g c = λ now. stops_by g.G.Ground.made (CarriesOut (Err c.args.refusal) c.args.message.now now) (TakesByApi (client_of c.args.caller) c.args.message.now) c.refuse.result _ _ _ _ c.in_err-taken.was c.from_residual.ensures.1 (rw (c.call_name-name.ensures.value, c.as_slice.ensures) at c.refuse.ensures.made)

pub returns-clause-made : goal.returns-clause-made
returns-clause-made g c = λ now. goes_on g.G.Ground.made g.met.G.Ground.made_more (CarriesOut (Err c.args.refusal) c.args.message.now now) (TakesByApi (client_of c.args.caller) c.args.message.now) c.refuse.result c.in_ok-taken.taken c.taken_by_api.result _ _ _ c.in_ok-taken.was (rw (c.call_name-name.ensures.value, c.as_slice.ensures) at c.refuse.ensures.made) c.taken_by_api.ensures.made

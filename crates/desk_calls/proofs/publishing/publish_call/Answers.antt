use Rattle.std.proofs.Common.{Ok}
use Rattle.js_api.specs.Api.{CarriesOut, TakesByApi}
use Rattle.desk_ground.specs.Callers.{client_of}
use Rattle.desk_ground.proofs.Stages.{goes_on, stops_by}
use Rattle.desk_calls.proofs.publishing.publish_call.Goals as goal

pub returns-in_err-taken-clause-made : goal.returns-in_err-taken-clause-made
returns-in_err-taken-clause-made g c = stops_by g.G.Ground.made (CarriesOut (Ok c.args.request) c.args.message.now c.args.now) (TakesByApi (client_of c.args.caller) c.args.message.now) c.carry_out.result _ _ _ _ c.in_err-taken.was c.from_residual.ensures.1 c.carry_out.ensures.made

pub returns-clause-made : goal.returns-clause-made
returns-clause-made g c = goes_on g.G.Ground.made g.met.G.Ground.made_more (CarriesOut (Ok c.args.request) c.args.message.now c.args.now) (TakesByApi (client_of c.args.caller) c.args.message.now) c.carry_out.result c.in_ok-taken.taken c.taken_by_api.result _ _ _ c.in_ok-taken.was c.carry_out.ensures.made c.taken_by_api.ensures.made

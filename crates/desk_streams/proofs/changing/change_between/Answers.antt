use Rattle.api_calls.specs.declared.call.ApiCall.TheVariants as calls
use Rattle.api_calls.specs.Names.{name_of}
use Rattle.js_model.specs.declared.event.What.TheVariants as whats
use Rattle.js_api.specs.OneStream.{keep_subjects}
use Rattle.desk_ground.proofs.OneStream.{on_stream}
use Rattle.desk_streams.proofs.changing.change_between.Goals as goal

pub returns-clause-made : goal.returns-clause-made
returns-clause-made g c = on_stream g.G.Ground.made g.met.G.Ground.made_more (name_of calls.StreamUpdate) c.args.at (whats.Change c.args.to.now c.args.config) c.args.now (keep_subjects c.args.at) c.ask_change-outcome.result c.end_call-result.result _ _ _ _ c.ask_change-outcome.ensures.made c.keep_subjects.ensures.made c.end_call-result.ensures.made

use Rattle.api_calls.specs.declared.call.ApiCall.TheVariants as calls
use Rattle.api_calls.specs.Names.{name_of}
use Rattle.js_model.specs.declared.event.What.TheVariants as whats
use Rattle.js_api.specs.OneStream.{free_if_dropped}
use Rattle.desk_ground.proofs.OneStream.{on_stream}
use Rattle.desk_streams.proofs.deleting.drop_at.Goals as goal

pub returns-clause-made : goal.returns-clause-made
returns-clause-made g c = on_stream g.G.Ground.made g.met.G.Ground.made_more (name_of calls.StreamDelete) c.args.at (whats.Drop c.args.to.now) c.args.now (free_if_dropped c.args.at) c.ask_drop-outcome.result c.end_call-result.result _ _ _ _ c.ask_drop-outcome.ensures.made c.free_if_dropped.ensures.made c.end_call-result.ensures.made

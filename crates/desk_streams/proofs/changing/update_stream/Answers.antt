use Rattle.desk_streams.proofs.Asked.{may_change}
use Rattle.api_calls.specs.declared.call.ApiCall.TheVariants as calls
use Rattle.api_calls.specs.Names.{name_of}
use Rattle.js_model.specs.Catalog as catalog
use Rattle.js_api.specs.OneStream.{IsAbsent, IsChanging}
use Rattle.js_api.specs.Stages.{LooksUp}
use Rattle.desk_ground.proofs.Stages.{stops_by}
use Rattle.desk_ground.proofs.OneStream.{named_within}
use Rattle.desk_streams.proofs.changing.update_stream.Goals as goal

pub returns-in_err-found-clause-made : goal.returns-in_err-found-clause-made
returns-in_err-found-clause-made g c = stops_by g.G.Ground.made (LooksUp (catalog.ByName c.args.stream.now)) _ c.begin.result _ _ _ _ c.in_err-found.was c.from_residual.ensures.1 c.begin.ensures.made

pub returns-clause-made : goal.returns-clause-made
returns-clause-made g c = named_within g.G.Ground.made g.met.G.Ground.made_more c.args.stream.now (IsAbsent (name_of calls.StreamUpdate) c.args.to.now) (IsChanging c.args.config c.args.to.now c.args.now) c.begin.result c.in_ok-found.found c.change_found-result.result _ _ _ _ c.in_ok-found.was c.begin.ensures.made c.change_found-result.ensures.made c.end.ensures.made

pub change_found-result-requires-clause-asked : goal.change_found-result-requires-clause-asked
change_found-result-requires-clause-asked g c = may_change c.args.stream.now c.args.config c.args.to.now c.requires.setup c.requires.to

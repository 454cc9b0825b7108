use Rattle.api_calls.specs.declared.call.ApiCall.TheVariants as calls
use Rattle.api_calls.specs.Names.{name_of}
use Rattle.js_model.specs.declared.event.What.TheVariants as whats
use Rattle.js_model.specs.Catalog as catalog
use Rattle.js_api.specs.OneStream.{IsAbsent, IsOnStream, free_if_dropped}
use Rattle.js_api.specs.Stages.{LooksUp}
use Rattle.desk_ground.proofs.Stages.{stops_by}
use Rattle.desk_ground.proofs.OneStream.{named_within}
use Rattle.desk_streams.proofs.deleting.delete_stream.Goals as goal

pub returns-in_err-found-clause-made : goal.returns-in_err-found-clause-made
returns-in_err-found-clause-made g c = stops_by g.G.Ground.made (LooksUp (catalog.ByName c.args.stream.now)) _ c.begin.result _ _ _ _ c.in_err-found.was c.from_residual.ensures.1 c.begin.ensures.made

pub returns-clause-made : goal.returns-clause-made
returns-clause-made g c = named_within g.G.Ground.made g.met.G.Ground.made_more c.args.stream.now (IsAbsent (name_of calls.StreamDelete) c.args.to.now) (λ at. IsOnStream (name_of calls.StreamDelete) at (whats.Drop c.args.to.now) c.args.now (free_if_dropped at)) c.begin.result c.in_ok-found.found c.drop_found-result.result _ _ _ _ c.in_ok-found.was c.begin.ensures.made c.drop_found-result.ensures.made c.end.ensures.made

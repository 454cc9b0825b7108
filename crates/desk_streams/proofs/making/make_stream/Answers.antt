use Rattle.std.proofs.Common.{None}
use Rattle.js_model.specs.Catalog as catalog
use Rattle.js_api.specs.Stages.{Gives, LooksUp}
use Rattle.js_api.specs.Making.{IsPreparing}
use Rattle.stream_config.specs.Defaults.{default_config}
use Rattle.desk_ground.proofs.Stages.{stops_by}
use Rattle.desk_ground.proofs.OneStream.{named_within}
use Rattle.desk_streams.proofs.making.make_stream.Goals as goal

pub returns-in_err-found-clause-made : goal.returns-in_err-found-clause-made
returns-in_err-found-clause-made g c = stops_by g.G.Ground.made (LooksUp (catalog.ByName c.args.name.now)) _ c.begin.result _ _ _ _ c.in_err-found.was c.from_residual.ensures.1 c.begin.ensures.made

pub returns-clause-made : goal.returns-clause-made
returns-clause-made g c = named_within g.G.Ground.made g.met.G.Ground.made_more c.args.name.now (IsPreparing c.args.name.now (default_config c.args.name.now c.args.subject.now) c.args.now) (λ at. Gives None) c.begin.result c.in_ok-found.found c.make_found-result.result _ _ _ _ c.in_ok-found.was c.begin.ensures.made c.make_found-result.ensures.made c.end.ensures.made

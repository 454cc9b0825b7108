use Rattle.js_model.specs.Catalog as catalog
use Rattle.js_api.specs.Stages.{LooksUp}
use Rattle.desk_ground.proofs.Stages.{stops_by}
use Rattle.desk_streams.proofs.Questions.{asked_named}
use Rattle.desk_streams.proofs.asking.ask_stream.Goals as goal

pub returns-in_err-found-clause-made : goal.returns-in_err-found-clause-made
returns-in_err-found-clause-made g c = stops_by g.G.Ground.made (LooksUp (catalog.ByName c.args.stream.now)) _ c.by_name.result _ _ _ _ c.in_err-found.was c.from_residual.ensures.1 c.by_name.ensures.made

pub returns-clause-made : goal.returns-clause-made
returns-clause-made g c =
    asked_named g.G.Ground.made g.met.G.Ground.made_more c.args.asking c.args.to.now c.args.now c.args.stream.now c.by_name.result c.in_ok-found.found c.ask_found.result _ _ _ c.in_ok-found.was c.by_name.ensures.made c.ask_found.ensures.made

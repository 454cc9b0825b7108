use Rattle.js_model.specs.Catalog as catalog
use Rattle.js_api.specs.OneConsumer.{IsToldAt}
use Rattle.js_api.specs.Stages.{Gives, LooksUp}
use Rattle.std.proofs.Common.{false}
use Rattle.desk_ground.proofs.OneStream.{named}
use Rattle.desk_ground.proofs.Stages.{stops_by}
use Rattle.desk_messaging.specs.Tellings.{what_of}
use Rattle.desk_messaging.proofs.hearing.tell_stream.Goals as goal

pub returns-in_err-found-clause-made : goal.returns-in_err-found-clause-made
returns-in_err-found-clause-made g c = stops_by g.G.Ground.made (LooksUp (catalog.ByName c.args.stream.now)) _ c.by_name.result _ _ _ _ c.in_err-found.was c.from_residual.ensures.1 c.by_name.ensures.made

pub returns-clause-made : goal.returns-clause-made
returns-clause-made g c =
    named g.G.Ground.made g.met.G.Ground.made_more c.args.stream.now (Gives false) (IsToldAt (what_of c.args.telling c.args.to.now) c.args.now) c.by_name.result c.in_ok-found.found c.tell_found.result _ _ _
    c.in_ok-found.was c.by_name.ensures.made c.tell_found.ensures.made

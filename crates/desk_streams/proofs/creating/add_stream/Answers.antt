use Rattle.std.proofs.Common.{Some, Err}
use Rattle.api_calls.specs.declared.call.ApiCall.TheVariants as calls
use Rattle.api_calls.specs.Names.{name_of}
use Rattle.js_model.specs.declared.event.What.TheVariants as whats
use Rattle.js_model.specs.Catalog as catalog
use Rattle.js_model.specs.Cataloging.{add_told}
use Rattle.js_api.specs.OneStream.{GoesOnAdded}
use Rattle.desk_streams.specs.Refusing.{IsRefused}
use Rattle.desk_streams.proofs.Refused.{refused_added}
use Rattle.desk_ground.proofs.Stages.{as_such}
use Rattle.desk_streams.proofs.Cataloging.{adding, on_new_stream}
use Rattle.desk_streams.proofs.creating.add_stream.Goals as goal

pub returns-in-Ok-clause-made : goal.returns-in-Ok-clause-made
returns-in-Ok-clause-made g c =
    adding g.G.Ground.made g.met.G.Ground.made_more c.args.stream.now c.args.config (GoesOnAdded c.args.config c.args.to.now c.args.now) (catalog.At (Some c.in-Ok.at)) c.end_call-result.result _ _ _ (rw (c.in-Ok.is, c.as_slice.ensures) at c.add.ensures.made)
    (on_new_stream g.G.Ground.made g.met.G.Ground.made_more (name_of calls.StreamCreate) c.in-Ok.at (whats.Make c.args.to.now c.args.config) c.args.now c.make_at-outcome.result c.end_call-result.result _ _ _ c.make_at-outcome.ensures.made c.end_call-result.ensures.made)

pub returns-in-Err-clause-made : goal.returns-in-Err-clause-made
returns-in-Err-clause-made g c =
    adding g.G.Ground.made g.met.G.Ground.made_more c.args.stream.now c.args.config (GoesOnAdded c.args.config c.args.to.now c.args.now) (add_told (Err c.in-Err.fault)) c.end_refused.result _ _ _ (rw (c.in-Err.is, c.as_slice.ensures) at c.add.ensures.made)
    (as_such g.G.Ground.made (IsRefused (name_of calls.StreamCreate) c.args.to.now c.in-Err.fault c.end_refused.result) _ _ _ c.end_refused.ensures.made (refused_added c.args.config c.args.to.now c.args.now c.in-Err.fault c.end_refused.result))

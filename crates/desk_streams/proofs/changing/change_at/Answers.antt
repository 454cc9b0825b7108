use Rattle.std.proofs.Common.{Err}
use Rattle.js_model.specs.Catalog as catalog
use Rattle.js_model.specs.Cataloging.{change_told}
use Rattle.api_calls.specs.declared.call.ApiCall.TheVariants as calls
use Rattle.api_calls.specs.Names.{name_of}
use Rattle.desk_streams.specs.Refusing.{IsRefused}
use Rattle.desk_streams.proofs.Refused.{refused_changed}
use Rattle.desk_ground.proofs.Stages.{as_such}
use Rattle.desk_streams.proofs.Cataloging.{changing}
use Rattle.desk_streams.proofs.changing.change_at.Goals as goal

pub returns-in-Ok-clause-made : goal.returns-in-Ok-clause-made
returns-in-Ok-clause-made g c = changing g.G.Ground.made g.met.G.Ground.made_more c.args.config c.args.to.now c.args.now c.args.at catalog.Done c.change_between.result _ _ _ (rw (c.in-Ok.is, c.as_slice.ensures) at c.change.ensures.made) c.change_between.ensures.made

pub returns-in-Err-clause-made : goal.returns-in-Err-clause-made
returns-in-Err-clause-made g c =
    changing g.G.Ground.made g.met.G.Ground.made_more c.args.config c.args.to.now c.args.now c.args.at (change_told (Err c.in-Err.fault)) c.end_refused.result _ _ _ (rw (c.in-Err.is, c.as_slice.ensures) at c.change.ensures.made)
    (as_such g.G.Ground.made (IsRefused (name_of calls.StreamUpdate) c.args.to.now c.in-Err.fault c.end_refused.result) _ _ _ c.end_refused.ensures.made (refused_changed c.args.at c.args.config c.args.to.now c.args.now c.in-Err.fault c.end_refused.result))

use Rattle.std.proofs.Common.{Err, Some}
use Rattle.js_model.specs.Catalog as catalog
use Rattle.js_api.specs.Making.{GoesOnTaken}
use Rattle.js_model.specs.Cataloging.{add_told}
use Rattle.desk_streams.proofs.Refused.{untaken_so}
use Rattle.desk_ground.proofs.Stages.{nothing}
use Rattle.desk_streams.proofs.Cataloging.{adding, making_at}
use Rattle.desk_streams.proofs.making.add_prepared.Goals as goal

pub returns-in-Ok-clause-made : goal.returns-in-Ok-clause-made
returns-in-Ok-clause-made g c =
    adding g.G.Ground.made g.met.G.Ground.made_more c.args.name.now c.args.prepared.config (GoesOnTaken c.args.prepared.config c.args.now) (catalog.At (Some c.in-Ok.at)) c.making_told.result _ _ _ (rw (c.in-Ok.is, c.as_slice.ensures) at c.add.ensures.made)
    (making_at g.G.Ground.made c.args.prepared.config c.args.now c.in-Ok.at c.make_at-outcome.result c.making_told.result _ _ c.make_at-outcome.ensures.made c.making_told.ensures.told)

pub returns-in-Err-clause-made : goal.returns-in-Err-clause-made
returns-in-Err-clause-made g c =
    adding g.G.Ground.made g.met.G.Ground.made_more c.args.name.now c.args.prepared.config (GoesOnTaken c.args.prepared.config c.args.now) (add_told (Err c.in-Err.fault)) c.untaken.result _ _ _ (rw (c.in-Err.is, c.as_slice.ensures) at c.add.ensures.made)
    (rw c.untaken.ensures.value (nothing g.G.Ground.made _ _ (g.met.G.Ground.made_nothing _) (untaken_so c.args.prepared.config c.args.now c.in-Err.fault)))

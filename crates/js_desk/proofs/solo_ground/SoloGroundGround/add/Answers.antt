use Rattle.std.proofs.Common.{true}
use Rattle.js_model.specs.Catalog as catalog
use Rattle.js_model.specs.Cataloging.{add_told}
use Rattle.js_desk.proofs.Cataloged.{added_grounded, added_known, added_told, added_within}
use Rattle.js_desk.proofs.Looked.{looked}
use Rattle.js_desk.proofs.solo_ground.SoloGroundGround.add.Goals as goal

pub invariant_of-self : goal.invariant_of-self
invariant_of-self g c = added_grounded _ _ _ _ _ c.self.invariant _ _ c.add_named.result (rw (← c.self.view_is) at c.requires.turn) c.add_named.ensures.added c.add_named.ensures.err

pub returns-clause-made : goal.returns-clause-made
returns-clause-made g c = rw (← c.self.view_is) (looked _ g.met.P.Place.keeps_none _ _ _ _ g.P.Place.room_causes.outgrows_log g.met.P.Place.earlier _ _ _ _ _ _ _ c.self.inside.turn c.self.inside.turn true (catalog.Add c.args.name.now c.args.subjects.now) (add_told c.add_named.result) c.add_named.ensures.added)

pub returns-clause-within : goal.returns-clause-within
returns-clause-within g c = added_within _ _ _ _ _ c.self.invariant _ _ c.add_named.result _ c.add_named.ensures.added c.self.invariant.same

pub returns-clause-known : goal.returns-clause-known
returns-clause-known g c = added_known _ _ _ _ _ c.self.invariant _ _ c.add_named.result c.add_named.ensures.added

pub returns-clause-text : goal.returns-clause-text
returns-clause-text g c = added_told _ _ _ _ _ c.self.invariant _ _ c.add_named.result c.add_named.ensures.added

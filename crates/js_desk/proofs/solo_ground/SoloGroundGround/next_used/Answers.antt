use Rattle.std.proofs.Common.{arith, inl}
use Rattle.js_model.specs.Catalog as catalog
use Rattle.js_desk.proofs.Lookups.{next_few, next_within}
use Rattle.js_desk.proofs.Looked.{looked_up}
use Rattle.js_desk.proofs.solo_ground.SoloGroundGround.next_used.Goals as goal

pub returns-clause-made : goal.returns-clause-made
returns-clause-made g c = rw (← c.self.view_is) (looked_up _ g.met.P.Place.keeps_none _ _ _ _ g.P.Place.room_causes.outgrows_log g.met.P.Place.earlier _ _ _ _ _ _ _ (catalog.NextUsed c.args.after) c.next_used.result (inl c.next_used.ensures.found))

pub returns-clause-within : goal.returns-clause-within
returns-clause-within g c = rw (← c.self.view_is) (next_within c.self.inside.catalog c.args.after c.next_used.result _ c.next_used.ensures.found c.self.invariant.same)

pub returns-clause-few : goal.returns-clause-few
returns-clause-few g c = next_few c.self.inside.catalog c.args.after c.next_used.result c.next_used.ensures.found (omega (arith, c.self.invariant.same, c.self.invariant.few))

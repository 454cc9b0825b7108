use Rattle.std.proofs.Common.{inl}
use Rattle.js_model.specs.Catalog as catalog
use Rattle.js_desk.proofs.Lookups.{named_within, named_known}
use Rattle.js_desk.proofs.Looked.{begun_up, begun_grounded, outside_single}
use Rattle.js_desk.proofs.solo_ground.SoloGroundGround.begin.Goals as goal

pub invariant_of-self : goal.invariant_of-self
invariant_of-self g c = begun_grounded _ _ _ _ (rw (← c.self.view_is) at c.requires.outside) c.self.invariant

pub returns-clause-made : goal.returns-clause-made
returns-clause-made g c = rw (← c.self.view_is) (begun_up _ g.met.P.Place.keeps_none _ _ _ _ g.P.Place.room_causes.outgrows_log g.met.P.Place.earlier _ _ _ _ _ _ _ (catalog.ByName c.args.name.now) c.by_name.result (inl c.by_name.ensures.found))

pub returns-clause-within : goal.returns-clause-within
returns-clause-within g c = (named_within c.self.inside.catalog c.args.name.now c.by_name.result _ c.by_name.ensures.found c.self.invariant.same)

pub returns-clause-known : goal.returns-clause-known
returns-clause-known g c = named_known c.self.inside.catalog c.args.name.now c.by_name.result (outside_single _ _ (rw (← c.self.view_is) at c.requires.outside) c.self.invariant.single) c.by_name.ensures.found

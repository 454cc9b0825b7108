use Rattle.std.proofs.Common.{inl}
use Rattle.js_model.specs.Catalog as catalog
use Rattle.js_desk.proofs.Lookups.{named_within}
use Rattle.js_desk.proofs.Looked.{looked_up}
use Rattle.js_desk.proofs.solo_ground.SoloGroundGround.by_name.Goals as goal

pub returns-clause-made : goal.returns-clause-made
returns-clause-made g c = rw (← c.self.view_is) (looked_up _ g.met.P.Place.keeps_none _ _ _ _ g.P.Place.room_causes.outgrows_log g.met.P.Place.earlier _ _ _ _ _ _ _ (catalog.ByName c.args.name.now) c.by_name.result (inl c.by_name.ensures.found))

pub returns-clause-within : goal.returns-clause-within
returns-clause-within g c = rw (← c.self.view_is) (named_within c.self.inside.catalog c.args.name.now c.by_name.result _ c.by_name.ensures.found c.self.invariant.same)

use Rattle.std.proofs.Common.{inl, true}
use Rattle.js_model.specs.Catalog as catalog
use Rattle.desk_places.specs.declared.turn.Turn.TheVariants as turns
use Rattle.js_desk.proofs.Cataloged.{freed_grounded}
use Rattle.js_desk.proofs.Looked.{looked}
use Rattle.js_desk.proofs.solo_ground.SoloGroundGround.remove.Goals as goal

pub remove-requires : goal.remove-requires
remove-requires g c = record { used = rw (← c.self.view_is) at c.requires.used }

pub invariant_of-self : goal.invariant_of-self
invariant_of-self g c = freed_grounded _ _ _ _ _ c.self.invariant c.args.place c.args.dropped (rw (← c.self.view_is) at c.requires.turn) c.remove.ensures.removed

pub returns-clause-made : goal.returns-clause-made
returns-clause-made g c = rw (← c.self.view_is) (looked _ g.met.P.Place.keeps_none _ _ _ _ g.P.Place.room_causes.outgrows_log g.met.P.Place.earlier _ _ _ _ _ _ _ c.self.inside.turn turns.Within true (catalog.Remove c.args.place c.args.dropped) catalog.Done (inl c.remove.ensures.removed))

use Rattle.std.proofs.Common.{inl, true}
use Rattle.js_model.specs.Catalog as catalog
use Rattle.desk_places.specs.declared.turn.Turn.TheVariants as turns
use Rattle.js_desk.proofs.Cataloged.{stopped_grounded}
use Rattle.js_desk.proofs.Looked.{looked}
use Rattle.js_desk.proofs.solo_ground.SoloGroundGround.stop.Goals as goal

pub stop-requires : goal.stop-requires
stop-requires g c = record { used = rw (← c.self.view_is) at c.requires.used }

pub invariant_of-self : goal.invariant_of-self
invariant_of-self g c = stopped_grounded _ _ _ _ _ c.self.invariant c.args.place (rw (← c.self.view_is) at c.requires.turn) c.stop.ensures.stopped

pub returns-clause-made : goal.returns-clause-made
returns-clause-made g c = rw (← c.self.view_is) (looked _ g.met.P.Place.keeps_none _ _ _ _ g.P.Place.room_causes.outgrows_log g.met.P.Place.earlier _ _ _ _ _ _ _ c.self.inside.turn turns.Within true (catalog.Stop c.args.place) catalog.Done (inl c.stop.ensures.stopped))

use Rattle.std.proofs.Common.{inl}
use Rattle.js_desk.proofs.Lookups.{next_within}
use Rattle.js_desk.proofs.Looked.{turned}
use Rattle.js_desk.proofs.solo_ground.SoloGroundGround.turn.Goals as goal

pub returns-clause-made : goal.returns-clause-made
returns-clause-made g c = rw c.place_or-self-inside.ensures.value (rw (← c.self.view_is) (turned _ g.met.P.Place.keeps_none _ _ _ _ g.P.Place.room_causes.outgrows_log g.met.P.Place.earlier _ _ _ _ _ _ _ c.next_used-found.result (inl c.next_used-found.ensures.found)))

pub returns-clause-within : goal.returns-clause-within
returns-clause-within g c = next_within c.self.inside.catalog c.self.inside.ticked c.next_used-found.result _ c.next_used-found.ensures.found c.self.invariant.same

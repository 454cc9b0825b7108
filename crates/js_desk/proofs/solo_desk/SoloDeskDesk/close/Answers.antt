use Rattle.std.proofs.Common.{◌∙◌}
use Rattle.js_desk.proofs.Solos.{desk_made, ended_consistent}
use Rattle.js_desk.proofs.solo_desk.SoloDeskDesk.close.Goals as goal

pub invariant_of-self : goal.invariant_of-self
invariant_of-self g c = ended_consistent _ c.self.inside.ground c.close-closed.new.ground c.self.inside.caller _ _ _ c.self.invariant (c.close-closed.ensures.phase ∙ c.self.invariant.outside) c.close-closed.ensures.made.led.1 (λ yes. absurd (cc))

pub returns-clause-made : goal.returns-clause-made
returns-clause-made g c = rw (← c.self.view_is) (desk_made _ _ _ _ _ g.P.Place.room_causes.outgrows_log _ _ _ _ _ c.close-closed.ensures.made)

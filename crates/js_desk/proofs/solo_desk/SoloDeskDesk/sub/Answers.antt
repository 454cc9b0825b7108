use Rattle.std.proofs.Common.{refl, ◌∙◌}
use Rattle.js_desk.proofs.Solos.{desk_made, kept_consistent}
use Rattle.js_desk.proofs.solo_desk.SoloDeskDesk.sub.Goals as goal

pub invariant_of-self : goal.invariant_of-self
invariant_of-self g c = kept_consistent _ c.self.inside.ground c.sub.new.ground c.self.inside.caller c.self.inside.caller _ _ c.self.invariant c.sub.ensures.setting (c.sub.ensures.phase ∙ c.self.invariant.outside) c.sub.ensures.made.led.1 refl refl

pub returns-clause-made : goal.returns-clause-made
returns-clause-made g c = rw (← c.self.view_is) (desk_made _ _ _ _ _ g.P.Place.room_causes.outgrows_log _ _ _ _ _ c.sub.ensures.made)

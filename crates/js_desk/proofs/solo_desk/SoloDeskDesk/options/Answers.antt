use Rattle.std.proofs.Common.{refl, ◌∙◌}
use Rattle.js_desk.proofs.Solos.{kept_consistent}
use Rattle.js_desk.proofs.solo_desk.SoloDeskDesk.options.Goals as goal

pub invariant_of-self : goal.invariant_of-self
invariant_of-self g c = kept_consistent _ c.self.inside.ground c.options.new.ground c.self.inside.caller c.self.inside.caller _ _ c.self.invariant c.options.ensures.setting (c.options.ensures.phase ∙ c.self.invariant.outside) c.options.ensures.made.led.1 refl refl

pub invariant_of-self-2 : goal.invariant_of-self-2
invariant_of-self-2 g c = kept_consistent _ c.self.inside.ground c.options.new.ground c.self.inside.caller _ _ _ c.self.invariant c.options.ensures.setting (c.options.ensures.phase ∙ c.self.invariant.outside) c.options.ensures.made.led.1 refl refl

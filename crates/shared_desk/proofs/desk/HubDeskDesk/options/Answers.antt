use Rattle.std.proofs.Common.{refl, ◌∙◌}
use Rattle.shared_desk.proofs.Desks.{kept_consistent}
use Rattle.shared_desk.proofs.desk.HubDeskDesk.options.Goals as goal

pub invariant_of-self : goal.invariant_of-self
invariant_of-self g c = kept_consistent c.self.inside.ground c.options.new.ground c.self.inside.caller c.self.inside.caller c.self.invariant c.options.ensures.setting (c.options.ensures.phase ∙ c.self.invariant.outside) refl refl

pub invariant_of-self-2 : goal.invariant_of-self-2
invariant_of-self-2 g c = kept_consistent c.self.inside.ground c.options.new.ground c.self.inside.caller _ c.self.invariant c.options.ensures.setting (c.options.ensures.phase ∙ c.self.invariant.outside) refl refl

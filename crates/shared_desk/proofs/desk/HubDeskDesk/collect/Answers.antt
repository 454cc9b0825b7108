use Rattle.std.proofs.Common.{refl, ◌∙◌}
use Rattle.shared_desk.proofs.Desks.{desk_made, kept_consistent}
use Rattle.shared_desk.proofs.desk.HubDeskDesk.collect.Goals as goal

pub invariant_of-self : goal.invariant_of-self
invariant_of-self g c = kept_consistent c.self.inside.ground c.collect.new.ground c.self.inside.caller c.self.inside.caller c.self.invariant c.collect.ensures.setting (c.collect.ensures.phase ∙ c.self.invariant.outside) refl refl

pub returns-clause-made : goal.returns-clause-made
returns-clause-made g c = rw (← c.self.view_is) (desk_made _ _ _ _ _ c.collect.ensures.made)

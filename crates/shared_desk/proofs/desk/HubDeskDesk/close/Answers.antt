use Rattle.std.proofs.Common.{◌∙◌}
use Rattle.shared_desk.proofs.Desks.{desk_made}
use Rattle.shared_desk.proofs.desk.HubDeskDesk.close.Goals as goal

pub invariant_of-self : goal.invariant_of-self
invariant_of-self g c = record { outside = c.close-closed.ensures.phase ∙ c.self.invariant.outside; opened = λ yes. absurd (cc) }

pub returns-clause-made : goal.returns-clause-made
returns-clause-made g c = rw (← c.self.view_is) (desk_made _ _ _ _ _ c.close-closed.ensures.made)

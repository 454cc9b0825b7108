use Rattle.std.proofs.Common.{refl}
use Rattle.shared_desk.proofs.Desks.{desk_made, kept_consistent}
use Rattle.shared_desk.proofs.desk.HubDeskDesk.publish.Goals as goal

pub invariant_of-self : goal.invariant_of-self
invariant_of-self g c = kept_consistent c.self.inside.ground c.publish.new.ground c.self.inside.caller c.self.inside.caller c.self.invariant c.publish.ensures.setting c.publish.ensures.phase refl refl

pub returns-clause-made : goal.returns-clause-made
returns-clause-made g c = rw (← c.self.view_is) (desk_made _ _ _ _ _ c.publish.ensures.made)

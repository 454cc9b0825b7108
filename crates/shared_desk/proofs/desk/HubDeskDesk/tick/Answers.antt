use Rattle.std.proofs.Common.{refl}
use Rattle.shared_desk.proofs.Desks.{desk_made, kept_consistent}
use Rattle.shared_desk.proofs.desk.HubDeskDesk.tick.Goals as goal

pub invariant_of-self : goal.invariant_of-self
invariant_of-self g c = kept_consistent c.self.inside.ground c.tick.new.ground c.self.inside.caller c.self.inside.caller c.self.invariant c.tick.ensures.setting c.tick.ensures.phase refl refl

pub returns-clause-made : goal.returns-clause-made
returns-clause-made g c = rw (← c.self.view_is) (desk_made _ _ _ _ _ c.tick.ensures.made)

use Rattle.std.proofs.Common.{◌∙◌}
use Rattle.desk_ground.proofs.OneStream.{unmade_here}
use Rattle.desk_messaging.proofs.Told.{may_hold, same_phase}
use Rattle.desk_messaging.proofs.hearing.tell_at.Goals as goal

pub returns-in-Ok-clause-made : goal.returns-in-Ok-clause-made
returns-in-Ok-clause-made g c = rw c.in-Ok.ensures.what at c.hold.ensures.made

pub returns-in-Ok-clause-phase : goal.returns-in-Ok-clause-phase
returns-in-Ok-clause-phase g c = (rw c.in-Ok.ensures.what at c.hold.ensures.phase) ∙ same_phase _ _ _ _ _

pub returns-in-Err-clause-made : goal.returns-in-Err-clause-made
returns-in-Err-clause-made g c = rw c.unmade.ensures.value (unmade_here g.G.Ground.made _ _ _ _ (g.met.G.Ground.made_nothing _))

pub hold-requires-clause-asked : goal.hold-requires-clause-asked
hold-requires-clause-asked g c = rw c.in-Ok.ensures.what c.requires.asked

pub hold-requires-clause-turn : goal.hold-requires-clause-turn
hold-requires-clause-turn g c = rw c.in-Ok.ensures.what (may_hold _ _ _)

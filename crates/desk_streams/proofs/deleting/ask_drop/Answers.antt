use Rattle.std.proofs.Common.{refl}
use Rattle.desk_ground.proofs.OneStream.{unmade_here}
use Rattle.desk_streams.proofs.deleting.ask_drop.Goals as goal

pub returns-in-Ok-clause-made : goal.returns-in-Ok-clause-made
returns-in-Ok-clause-made g c = rw c.in-Ok.ensures.copy at c.hold.ensures.made

pub returns-in-Err-clause-made : goal.returns-in-Err-clause-made
returns-in-Err-clause-made g c = rw c.unmade.ensures.value (unmade_here g.G.Ground.made _ _ _ _ (g.met.G.Ground.made_nothing _))

pub hold-requires-clause-asked : goal.hold-requires-clause-asked
hold-requires-clause-asked g c = rw c.in-Ok.ensures.copy (record { reply = c.requires.to; proper = refl; built = tt })

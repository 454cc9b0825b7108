use Rattle.desk_messaging.proofs.Published.{may_publish}
use Rattle.desk_ground.proofs.OneStream.{unmade_here}
use Rattle.desk_messaging.proofs.publishing.ask_store.Goals as goal

pub returns-in-Ok-clause-made : goal.returns-in-Ok-clause-made
returns-in-Ok-clause-made g c = rw c.in-Ok.ensures.what at c.hold.ensures.made

pub returns-in-Err-clause-made : goal.returns-in-Err-clause-made
returns-in-Err-clause-made g c = rw c.unmade.ensures.value (unmade_here g.G.Ground.made _ _ _ _ (g.met.G.Ground.made_nothing _))

pub hold-requires-clause-asked : goal.hold-requires-clause-asked
hold-requires-clause-asked g c = rw c.in-Ok.ensures.what (may_publish c.args.message.now c.requires.message c.requires.plain)

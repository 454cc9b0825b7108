use Rattle.std.proofs.Common.{refl}
use Rattle.desk_ground.proofs.Stages.{nothing}
use Rattle.desk_messaging.proofs.publishing.end_store.Goals as goal

pub returns-in-Some-clause-made : goal.returns-in-Some-clause-made
returns-in-Some-clause-made g c = rw c.in-Some.is (nothing g.G.Ground.made _ _ (g.met.G.Ground.made_nothing _) (refl, refl))

pub returns-in-None-clause-made : goal.returns-in-None-clause-made
returns-in-None-clause-made g c = rw c.in-None.is c.reached.ensures.made

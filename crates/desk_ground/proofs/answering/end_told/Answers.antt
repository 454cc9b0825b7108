use Rattle.std.proofs.Common.{refl}
use Rattle.desk_ground.proofs.Stages.{nothing}
use Rattle.desk_ground.proofs.answering.end_told.Goals as goal

pub returns-in-Made-clause-made : goal.returns-in-Made-clause-made
returns-in-Made-clause-made g c = rw (c.in-Made.is, c.is_taken.ensures.value) (nothing g.G.Ground.made _ _ (g.met.G.Ground.made_nothing _) (record { result_is = refl; entries_are = refl }))

pub returns-in-Broke-clause-made : goal.returns-in-Broke-clause-made
returns-in-Broke-clause-made g c = rw c.in-Broke.is c.refuse_for.ensures.made

pub returns-in-Stopped-clause-made : goal.returns-in-Stopped-clause-made
returns-in-Stopped-clause-made g c = rw c.in-Stopped.is c.refuse_for-in-Stopped.ensures.made

pub returns-in-Gone-clause-made : goal.returns-in-Gone-clause-made
returns-in-Gone-clause-made g c = rw c.in-Gone.is c.refuse_for-in-Gone.ensures.made

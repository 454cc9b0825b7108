use Rattle.desk_ground.proofs.Shorts.{unsent_then}
use Rattle.desk_ground.proofs.Stages.{nothing}
use Rattle.desk_messaging.proofs.telling.tell_untaken.Goals as goal

pub returns-in-Ok-clause-made : goal.returns-in-Ok-clause-made
returns-in-Ok-clause-made g c = rw (c.as_slice.ensures, c.in-Ok.ensures.outs) at c.tell_by.ensures.made

pub returns-in-Err-clause-made : goal.returns-in-Err-clause-made
returns-in-Err-clause-made g c = nothing g.G.Ground.made _ _ (g.met.G.Ground.made_nothing _) (unsent_then _ _ c.in-Err.ensures.err)

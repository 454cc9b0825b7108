use Rattle.desk_ground.proofs.Shorts.{none_so, one_answer, some_so, unanswered, unsent_then}
use Rattle.desk_ground.proofs.Stages.{nothing}
use Rattle.desk_streams.proofs.listing.answer_names.Goals as goal

pub returns-then-is_none-clause-made : goal.returns-then-is_none-clause-made
returns-then-is_none-clause-made g c = nothing g.G.Ground.made _ _ (g.met.G.Ground.made_nothing _) (unanswered _ _ (none_so _ _ c.is_none.ensures c.if-is_none.true))

pub returns-in-Ok-clause-made : goal.returns-in-Ok-clause-made
returns-in-Ok-clause-made g c = rw c.in-Ok.ensures.value at c.answer.ensures.made

pub returns-in-Err-clause-made : goal.returns-in-Err-clause-made
returns-in-Err-clause-made g c = nothing g.G.Ground.made _ _ (g.met.G.Ground.made_nothing _) (unsent_then _ _ (one_answer _ _ (some_so _ _ c.is_none.ensures c.if-is_none.false)))

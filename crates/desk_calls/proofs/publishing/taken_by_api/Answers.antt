use Rattle.std.proofs.Common.{refl}
use Rattle.desk_ground.proofs.Stages.{if_not, if_so, nothing}
use Rattle.desk_calls.proofs.publishing.taken_by_api.Goals as goal

pub returns-then-taken-clause-made : goal.returns-then-taken-clause-made
returns-then-taken-clause-made g c = if_so g.G.Ground.made c.args.taken _ _ _ _ c.if-taken.true (nothing g.G.Ground.made _ _ (g.met.G.Ground.made_nothing _) (record { result_is = refl; entries_are = refl }))

pub returns-else-taken-clause-made : goal.returns-else-taken-clause-made
returns-else-taken-clause-made g c = if_not g.G.Ground.made c.args.taken _ _ _ _ c.if-taken.false c.tell_untaken.ensures.made

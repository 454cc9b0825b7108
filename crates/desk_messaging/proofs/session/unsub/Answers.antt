use Rattle.std.proofs.Common.{refl}
use Rattle.desk_ground.proofs.Stages.{if_not, if_so, nothing, opposite_false, opposite_true}
use Rattle.desk_messaging.proofs.session.unsub.Goals as goal

pub returns-then-not-caller-clause-made : goal.returns-then-not-caller-clause-made
returns-then-not-caller-clause-made g c = if_not g.G.Ground.made c.args.caller.is_open _ _ _ _ (opposite_true _ c.if-not-caller.true) (nothing g.G.Ground.made _ _ (g.met.G.Ground.made_nothing _) (refl, refl))

pub returns-clause-made : goal.returns-clause-made
returns-clause-made g c = if_so g.G.Ground.made c.args.caller.is_open _ _ _ _ (opposite_false _ c.if-not-caller.false) c.unsub.ensures.made

use Rattle.std.proofs.Common.{refl}
use Rattle.js_api.specs.Answering.{Took}
use Rattle.js_api.specs.Calls.{Publishes}
use Rattle.desk_ground.specs.Callers.{client_of}
use Rattle.desk_ground.proofs.Stages.{answered, if_not, if_so, nothing, opposite_false, opposite_true}
use Rattle.desk_calls.proofs.publishing.publish.Goals as goal

pub returns-then-not-caller-clause-made : goal.returns-then-not-caller-clause-made
returns-then-not-caller-clause-made g c = if_not g.G.Ground.made c.args.caller.is_open _ _ _ _ (opposite_true _ c.if-not-caller.true) (nothing g.G.Ground.made _ _ (g.met.G.Ground.made_nothing _) (refl, refl))

pub returns-clause-made : goal.returns-clause-made
returns-clause-made g c =
    if_so g.G.Ground.made c.args.caller.is_open _ _ _ _ (opposite_false _ c.if-not-caller.false)
    (answered g.G.Ground.made Took (Publishes (client_of c.args.caller) c.args.message.now c.args.now) c.publish_open.result _ _ c.publish_open.ensures.made)

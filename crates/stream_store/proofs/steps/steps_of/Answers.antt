use Rattle.std.proofs.Common.{◌∙◌, ◌++◌, ◌∷◌, [], List, ap, arith}
use Rattle.stream_store.specs.declared.steps.Step.{Step}
use Rattle.stream_store.specs.declared.steps.Step.TheVariants as step
use Rattle.stream_store.proofs.Taken.{all_steps, step_added}
use Rattle.stream_store.proofs.steps.steps_of.Goals as goal

pub loop-effect-preserved : goal.loop-effect-preserved
loop-effect-preserved c = record {
  steps = step_added c.loop-effect.steps.items c.args.effects.now c.loop-effect.effect-index c.effect-item.result c.args.spots.now c.loop-effect.used (omega arith) c.effect-item.is c.loop-effect.invariant.steps
      c.add_step.new.steps.items c.in_ok-used.used c.in_ok-used.ensures.added;
  within = c.in_ok-used.ensures.within;
}

pub returns : goal.returns
returns c = record {
  value = c.in_ok-push.ensures.items
      ∙ ap (λ (l : List Step). l ++ step.Close ∷ []) (all_steps c.loop-effect.steps.items c.args.effects.now c.loop-effect.effect-index c.args.spots.now c.loop-effect.used (omega arith) c.loop-effect.invariant.steps);
}

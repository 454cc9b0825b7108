use Rattle.std.proofs.Common.{◌≤◌, length}
use Rattle.stream_store.proofs.Taken.{AreSteps}
use Rattle.stream_store.proofs.steps.steps_of.Given as goal

-- the steps of the first changes, which use the first spots
abbrev pub invariant-loop-effect : goal.invariant-loop-effect
invariant-loop-effect l = record {
  steps : AreSteps l.steps.items l.effects l.effect-index l.spots l.used;
  within : l.used ≤ length l.spots;
}

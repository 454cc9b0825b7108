use Rattle.std.proofs.Common.{◌≡◌, false, take}
use Rattle.stream_store.specs.Steps.{takes_away}
use Rattle.stream_store.proofs.staging.take_away.Given as goal

abbrev pub invariant-loop-step : goal.invariant-loop-step
invariant-loop-step l = takes_away (take l.step-index l.steps) ≡ false

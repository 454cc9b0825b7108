use Rattle.std.proofs.Common.{◌≡◌, take}
use Rattle.stream_store.specs.Steps.{with_steps}
use Rattle.stream_store.proofs.alternating.table_with.Given as goal

-- the copy has taken the first steps
abbrev pub invariant-loop-step : goal.invariant-loop-step
invariant-loop-step l = l.then ≡ with_steps (take l.step-index l.steps) l.table

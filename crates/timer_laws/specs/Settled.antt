-- When the limits and the retention of a stream have nothing left to drop, by JetStream's limits and retention policies.
use Rattle.std.specs.Prelude.{◌≡◌}
use Rattle.js_model.specs.declared.stream.State.{State}
use Rattle.js_model.specs.Events.{settled_state}

-- what they would drop is gone already
abbrev pub IsSettled : State → Type 0
IsSettled s = settled_state s ≡ s

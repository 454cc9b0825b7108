-- The pulls of a consumer that wait for messages, by JetStream's pull consumers and their max_waiting.
use Rattle.std.specs.Prelude.{ℕ, List}
use Rattle.js_model.specs.declared.consumer.Pull.{Pull}

-- how many pulls may wait, and those that do, in the order of their asking
pub record Queue : Type 0 where
  pub max_waiting : ℕ
  pub pulls : List Pull

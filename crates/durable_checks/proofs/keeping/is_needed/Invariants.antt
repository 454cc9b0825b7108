use Rattle.std.proofs.Common.{◌≡◌, false, take}
use Rattle.std.specs.List.{list_any}
use Rattle.js_model.specs.Retention.{needs}
use Rattle.durable_checks.proofs.keeping.is_needed.Given as goal

abbrev pub invariant-loop-consumer : goal.invariant-loop-consumer
invariant-loop-consumer l = list_any (λ c. needs c l.message) (take l.consumer-index l.consumers) ≡ false

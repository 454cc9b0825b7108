use Rattle.std.proofs.Common.{◌≡◌, true, take}
use Rattle.std.specs.List.{list_all}
use Rattle.model_laws.specs.SoundTests.{is_matched_consumer}
use Rattle.durable_checks.proofs.matching.are_all_matched.Given as goal

abbrev pub invariant-loop-consumer : goal.invariant-loop-consumer
invariant-loop-consumer l = list_all (is_matched_consumer l.messages) (take l.consumer-index l.consumers) ≡ true

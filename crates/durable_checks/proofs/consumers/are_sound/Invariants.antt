use Rattle.std.proofs.Common.{◌≡◌, true, take}
use Rattle.std.specs.List.{list_all}
use Rattle.durable_checks.specs.Parts.{is_sound_in}
use Rattle.durable_checks.proofs.consumers.are_sound.Given as goal

abbrev pub invariant-loop-consumer : goal.invariant-loop-consumer
invariant-loop-consumer l = list_all (is_sound_in l.stored l.last) (take l.consumer-index l.consumers) ≡ true

use Rattle.std.proofs.Common.{◌≡◌, ◌++◌, map, take, drop, not}
use Rattle.effects.specs.Folding.{holding}
use Rattle.effects.specs.Ranges.{is_within}
use Rattle.log_replay.proofs.consumers.forget_all.Given as goal

abbrev pub invariant-loop-consumer : goal.invariant-loop-consumer
invariant-loop-consumer l = l.consumers ≡ map (holding (λ n. not (is_within l.low l.high n))) (take l.consumer-index l.initial.consumers) ++ drop l.consumer-index l.initial.consumers

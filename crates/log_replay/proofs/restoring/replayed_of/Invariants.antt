use Rattle.std.proofs.Common.{◌≡◌, ◌++◌}
use Rattle.log_replay.proofs.restoring.replayed_of.Given as goal

-- those so far are there, and the iterator has the others
abbrev pub invariant-loop-consumer : goal.invariant-loop-consumer
invariant-loop-consumer l = record {
  all : l.yielded ++ l.consumer-iterator.rest.items ≡ l.fn.consumers;
  made : l.replayed.items ≡ l.yielded;
}

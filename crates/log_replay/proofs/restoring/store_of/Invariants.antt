use Rattle.std.proofs.Common.{◌≡◌, ◌++◌}
use Rattle.log_replay.proofs.restoring.store_of.Given as goal

-- those so far are stored, and the iterator has the others
abbrev pub invariant-loop-message : goal.invariant-loop-message
invariant-loop-message l = record {
  all : l.yielded ++ l.message-iterator.rest.items ≡ l.fn.messages;
  stored : l.store ≡ l.yielded;
}

use Rattle.std.proofs.Common.{◌≡◌, take}
use Rattle.stored_stream.proofs.restoring.indexed.Given as goal

-- the messages so far
abbrev pub invariant-loop-message : goal.invariant-loop-message
invariant-loop-message l = l.messages ≡ take l.message-index l.kept

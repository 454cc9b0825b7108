use Rattle.std.proofs.Common.{◌≡◌, ◌++◌}
use Rattle.message_store.proofs.store.MessageStore.to_list.Given as goal

-- what is listed and what is still to be are all
abbrev pub invariant-loop-message : goal.invariant-loop-message
invariant-loop-message l = l.listed ++ l.message-iterator ≡ l.self

use Rattle.std.proofs.Common.{◌≡◌, ◌++◌, take}
use Rattle.std.specs.List.{flat_map}
use Rattle.state_snapshot.specs.Snapshots.{stored_in}
use Rattle.state_snapshot.specs.Spelling.{spelled_message}
use Rattle.state_snapshot.proofs.writing.put_each_message.Given as goal

abbrev pub invariant-loop-message : goal.invariant-loop-message
invariant-loop-message l = l.into.items ≡ l.fn.into.items ++ flat_map spelled_message (take l.message-index (stored_in l.table.placed l.messages))

use Rattle.std.proofs.Common.{◌≡◌, map, take}
use Rattle.log_records.specs.Beginnings.{message_told}
use Rattle.log_records.proofs.beginning.messages_of.Given as goal

-- those so far
abbrev pub invariant-loop-one : goal.invariant-loop-one
invariant-loop-one l = l.messages ≡ map message_told (take l.one-index l.stored)

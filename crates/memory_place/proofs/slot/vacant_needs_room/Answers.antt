use Rattle.std.proofs.Common.{sym}
use Rattle.memory_place.proofs.Needing.{vacant_other}
use Rattle.memory_place.proofs.slot.vacant_needs_room.Goals as goal

pub returns-in_default : goal.returns-in_default
returns-in_default c = record { value = sym (vacant_other c.args.last c.args.what.now c.in_default.not-Make) }

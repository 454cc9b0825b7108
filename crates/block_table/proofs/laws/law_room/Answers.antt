use Rattle.block_table.proofs.Rooms.{law_room}
use Rattle.block_table.proofs.laws.law_room.Goals as goal

pub returns : goal.returns
returns c = law_room

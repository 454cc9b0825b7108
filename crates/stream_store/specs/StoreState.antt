-- What is known of a store.
use Rattle.std.specs.Prelude.{List}
use Rattle.gate_log.specs.LogState.{LogState}
use Rattle.block_table.specs.declared.block.Block.{Block}
use Rattle.block_table.specs.Blocks.{Blocks}
use Rattle.stream_store.specs.declared.rooms.Rooms.{Rooms}

pub record StoreState : Type 0 where
  -- the current log of its volume
  pub log : LogState
  -- where the messages of what the volume holds lie
  pub blocks : Blocks
  -- files that are cut behind the next commit if they are no blocks then: room was made in them for messages, or a commit may have left them without
  -- messages and there was no memory to tell
  pub unused : List Block
  -- how long its files are, as far as it is known
  pub rooms : Rooms

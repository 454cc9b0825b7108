-- What the message blocks of a volume hold, by a format of this server's own: up to its end a block is messages, one behind the other from offset 0 on, and each
-- stored message stands at its spot.
use Rattle.std.specs.Prelude.{◌≡◌, ℕ, ◌+◌, List, All, take, drop, Ok}
use Rattle.std.specs.List.{AllZip}
use Rattle.js_base.specs.Bytes.{Bytes}
use Rattle.js_base.specs.declared.spot.Spot.{Spot}
use Rattle.js_model.specs.Lists.{Between}
use Rattle.js_model.specs.declared.stream.Message.{Message}
use Rattle.op_records.specs.Blocks.{message_at, Follow}
use Rattle.op_records.specs.Laws.{IsBatch}
use Rattle.vol_disk.specs.Disk.{Files}
use Rattle.block_table.specs.declared.block.Block.{Block}
use Rattle.block_table.specs.declared.placed.Placed.{Placed}
use Rattle.block_table.specs.Blocks.{Blocks, blocks}

-- ---- blocks

-- what is written of a block, or less if its file is shorter
abbrev pub written_in : Files → Block → Bytes
written_in image block = take block.end (image block.file)

-- these messages stand one behind the other, from offset 0 up to here; their sequences rise, and none is above the stream's last one
pub record StandIn (bytes : Bytes) (last : ℕ) (messages : List Message) (here : ℕ) : Type 0 where
  pub follow : Follow bytes 0 messages here
  pub rising : Between (λ m. m.seq) 0 (last + 1) messages

-- the bytes are messages up to the end, whether they are stored still or not
pub record AreMessages (bytes : Bytes) (last end : ℕ) : Type 0 where
  pub few : IsBatch bytes
  pub messages : List Message
  pub stand : StandIn bytes last messages end

abbrev pub IsWhole : Files → ℕ → Block → Type 0
IsWhole image last block = AreMessages (written_in image block) last block.end

-- ---- stored messages

abbrev pub bytes_at : Files → Spot → Bytes
bytes_at image spot = take spot.len (drop spot.at (image spot.file))

-- the bytes at the spot are read as the message
pub record StandsAt (image : Files) (spot : Spot) (m : Message) : Type 0 where
  pub few : IsBatch (bytes_at image spot)
  pub reads : message_at (bytes_at image spot) 0 ≡ Ok (m, spot.len)

-- the message is where it was placed, by its sequence
pub record IsThere (image : Files) (p : Placed) (m : Message) : Type 0 where
  pub seq : m.seq ≡ p.seq
  pub stands : StandsAt image p.spot m

-- ---- both

-- each block of the table is whole, and these are the stored messages, in order of their sequences
pub record AreStoredIn (image : Files) (b : Blocks) (last : ℕ) (messages : List Message) : Type 0 where
  pub whole : All (IsWhole image last) (blocks b)
  pub found : AllZip (IsThere image) b.placed messages

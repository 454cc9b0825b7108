-- Where the message blocks of a volume are damaged, by a format of this server's own: the first of them that is not whole, or else the first stored message that
-- is not at its spot. What a log tells of a stored message is its sequence and its moment.
use Rattle.std.specs.Prelude.{◌≡◌, ◌⊎◌, ◌<◌, ℕ, List, [], ◌∷◌, ◌++◌, All}
use Rattle.std.specs.List.{AllZip}
use Rattle.js_base.specs.Bytes.{Bytes}
use Rattle.js_model.specs.declared.stream.Message.{Message}
use Rattle.vol_disk.specs.Disk.{Files}
use Rattle.block_table.specs.declared.block.Block.{Block}
use Rattle.block_table.specs.declared.placed.Placed.{Placed}
use Rattle.block_table.specs.Blocks.{Blocks, blocks}
use Rattle.block_reading.specs.Standing.{written_in, StandIn, IsWhole, IsThere}

-- ---- blocks

-- messages stand up to there, which is not the end, and with none more they do
pub record AreWrongAt (bytes : Bytes) (last end at : ℕ) : Type 0 where
  pub before : List Message
  pub stand : StandIn bytes last before at
  pub more : at < end
  pub none : (m : Message) (behind : ℕ) → ¬ StandIn bytes last (before ++ m ∷ []) behind

-- the first of the blocks that is not whole is in this file, and wrong there
pub record HasBadBlock (image : Files) (ks : List Block) (last file at : ℕ) : Type 0 where
  pub before : List Block
  pub block : Block
  pub after : List Block
  pub blocks_are : ks ≡ before ++ block ∷ after
  pub whole : All (IsWhole image last) before
  pub wrong : AreWrongAt (written_in image block) last block.end at
  pub file_is : file ≡ block.file

-- ---- stored messages

-- the message has the sequence and the moment that the log tells
pub record IsToldBy (told m : Message) : Type 0 where
  pub seq : m.seq ≡ told.seq
  pub moment : m.at ≡ told.at

-- the message that the log tells is where it was placed
abbrev pub IsHere : Files → Placed → Message → Type 0
IsHere image p told = (m : Message) × IsThere image p m × IsToldBy told m

-- the first of the stored messages that is not where it was placed has its spot in this file, at this offset
pub record HasLost (image : Files) (placed : List Placed) (told : List Message) (file at : ℕ) : Type 0 where
  pub placed_before : List Placed
  pub p : Placed
  pub placed_after : List Placed
  pub placed_are : placed ≡ placed_before ++ p ∷ placed_after
  pub told_before : List Message
  pub one : Message
  pub told_after : List Message
  pub told_are : told ≡ told_before ++ one ∷ told_after
  pub here : AllZip (IsHere image) placed_before told_before
  pub lost : ¬ IsHere image p one
  pub file_is : file ≡ p.spot.file
  pub at_is : at ≡ p.spot.at

-- ---- both

-- all blocks are whole, and a stored message is lost
abbrev pub HasLostMessage : Files → Blocks → ℕ → List Message → ℕ → ℕ → Type 0
HasLostMessage image b last told file at = All (IsWhole image last) (blocks b) × HasLost image b.placed told file at

-- a block is not whole, or a stored message is lost
abbrev pub AreDamaged : Files → Blocks → ℕ → List Message → ℕ → ℕ → Type 0
AreDamaged image b last told file at = HasBadBlock image (blocks b) last file at ⊎ HasLostMessage image b last told file at

-- What was read of the message blocks of a volume, and why it was not.
use Rattle.std.specs.Prelude.{◌≡◌, ◌<◌, ◌≤◌, ◌^◌, ℕ, List, length, Ok, Err}
use Rattle.js_base.specs.Bytes.{Bytes}
use Rattle.js_base.specs.declared.spot.Spot.{Spot}
use Rattle.js_model.specs.declared.stream.Message.{Message}
use Rattle.op_records.specs.Blocks.{message_at}
use Rattle.op_records.specs.Laws.{IsBatch}
use Rattle.op_records.specs.declared.fault.RecordFault.{RecordFault}
use Rattle.op_records.specs.declared.fault.RecordFault.TheVariants as faults
use Rattle.vol_disk.specs.Disk.{Files}
use Rattle.message_block.specs.declared.fault.BlockFault.{BlockFault}
use Rattle.message_block.specs.declared.fault.BlockFault.TheVariants as block
use Rattle.block_table.specs.declared.block.Block.{Block}
use Rattle.block_table.specs.declared.placed.Placed.{Placed}
use Rattle.block_table.specs.Blocks.{Blocks}
use Rattle.block_reading.specs.Standing.{StandsAt, written_in}
use Rattle.block_reading.specs.Damage.{AreDamaged, AreWrongAt, HasBadBlock, HasLost, IsToldBy}
use Rattle.block_reading.specs.declared.bytes.BytesFault.{BytesFault}
use Rattle.block_reading.specs.declared.bytes.BytesFault.TheVariants as checked
use Rattle.block_reading.specs.declared.fault.MessagesFault.{MessagesFault}
use Rattle.block_reading.specs.declared.fault.MessagesFault.TheVariants.{Fault, Damaged, NoMemory as OutOfMemory}

-- ---- of the whole

-- the volume failed, memory ran out, or the blocks are damaged there
abbrev pub IsMessagesFault : Files → Blocks → ℕ → List Message → MessagesFault → Type 0
IsMessagesFault image b last told Fault = Unit {0}
IsMessagesFault image b last told (Damaged file at) = AreDamaged image b last told file at
IsMessagesFault image b last told OutOfMemory = Unit {0}

-- ---- of its parts

-- the fault of one read
abbrev pub block_fault : BlockFault → MessagesFault
block_fault block.Fault = Fault
block_fault block.NoMemory = OutOfMemory

-- nothing is told of the blocks
abbrev pub IsOutside : MessagesFault → Type 0
IsOutside Fault = Unit {0}
IsOutside (Damaged file at) = ⊥
IsOutside OutOfMemory = Unit {0}

-- what stands behind a message's beginning
pub record IsOn (bytes : Bytes) (at seq behind : ℕ) : Type 0 where
  pub further : at < behind
  pub within : behind ≤ length bytes
  pub number : seq < 2 ^ 62

-- the fault of the message at a place
abbrev pub bytes_fault : ℕ → RecordFault → BytesFault
bytes_fault at (faults.Cut place) = checked.Wrong at
bytes_fault at (faults.BadKind place) = checked.Wrong at
bytes_fault at (faults.BadField place) = checked.Wrong at
bytes_fault at faults.NoMemory = checked.NoMemory

-- no message is read there
abbrev pub IsEndFault : Bytes → ℕ → BytesFault → Type 0
IsEndFault bytes at (checked.Wrong place) = (place ≡ at) × ((fault : RecordFault) × (message_at bytes at ≡ Err fault))
IsEndFault bytes at checked.NoMemory = Unit {0}

-- of the bytes of a block
abbrev pub IsBytesFault : Bytes → ℕ → ℕ → BytesFault → Type 0
IsBytesFault bytes last end (checked.Wrong at) = AreWrongAt bytes last end at
IsBytesFault bytes last end checked.NoMemory = Unit {0}

-- the bytes are the message, whose sequence and moment the log tells
pub record IsStoredAs (bytes : Bytes) (told m : Message) : Type 0 where
  pub few : IsBatch bytes
  pub reads : message_at bytes 0 ≡ Ok (m, length bytes)
  pub by_log : IsToldBy told m

-- of the bytes of a stored message
abbrev pub IsStoredFault : Bytes → Message → BytesFault → Type 0
IsStoredFault bytes told (checked.Wrong at) = (m : Message) → ¬ IsStoredAs bytes told m
IsStoredFault bytes told checked.NoMemory = Unit {0}

-- of one block
abbrev pub IsBlockFault : Files → ℕ → Block → MessagesFault → Type 0
IsBlockFault image last block Fault = Unit {0}
IsBlockFault image last block (Damaged file at) = (file ≡ block.file) × AreWrongAt (written_in image block) last block.end at
IsBlockFault image last block OutOfMemory = Unit {0}

-- of these blocks
abbrev pub IsCheckFault : Files → ℕ → List Block → MessagesFault → Type 0
IsCheckFault image last ks Fault = Unit {0}
IsCheckFault image last ks (Damaged file at) = HasBadBlock image ks last file at
IsCheckFault image last ks OutOfMemory = Unit {0}

-- the message at its spot, which has the sequence and the moment that the log tells
pub record IsFound (image : Files) (spot : Spot) (told m : Message) : Type 0 where
  pub stands : StandsAt image spot m
  pub by_log : IsToldBy told m

-- of one stored message
abbrev pub IsLostFault : Files → Spot → Message → MessagesFault → Type 0
IsLostFault image spot told Fault = Unit {0}
IsLostFault image spot told (Damaged file at) = (file ≡ spot.file) × (at ≡ spot.at) × ((m : Message) → ¬ IsFound image spot told m)
IsLostFault image spot told OutOfMemory = Unit {0}

-- of these stored messages
abbrev pub AreLostFault : Files → List Placed → List Message → MessagesFault → Type 0
AreLostFault image placed told Fault = Unit {0}
AreLostFault image placed told (Damaged file at) = HasLost image placed told file at
AreLostFault image placed told OutOfMemory = Unit {0}

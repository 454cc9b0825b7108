-- What is read of a volume: what the current log tells, and the messages of its blocks in place of those that are unread.
use Rattle.std.specs.Prelude.{◌≡◌, ℕ, List, option_map, true}
use Rattle.std.specs.List.{AllZip}
use Rattle.js_base.specs.Bytes.{Bytes}
use Rattle.js_model.specs.declared.stream.Message.{Message}
use Rattle.vol_disk.specs.Disk.{Disk}
use Rattle.vol_disk.specs.Images.{IsDurable}
use Rattle.gate_log.specs.LogState.{LogState}
use Rattle.gate_log.specs.Settled.{IsSettled}
use Rattle.effects.specs.declared.durable.Body.{Body}
use Rattle.effects.specs.declared.durable.Durable.{Durable}
use Rattle.durable_checks.specs.Storable.{IsOpenable}
use Rattle.block_table.specs.Blocks.{Blocks, has_block}
use Rattle.block_reading.specs.Damage.{AreDamaged, IsToldBy}
use Rattle.block_reading.specs.Standing.{AreStoredIn}
use Rattle.log_records.specs.Ends.{IsLastIn}
use Rattle.log_records.specs.Unread.{stored_messages}
use Rattle.log_records.specs.declared.log.LogRead.{LogRead}
use Rattle.stream_store.specs.Holding.{last_of, logged}
use Rattle.stream_store.specs.declared.fault.OpenFault.{OpenFault}
use Rattle.stream_store.specs.declared.fault.OpenFault.TheVariants.{Fault, Damaged, UnknownVersion, NoRoom, NoMemory as OutOfMemory}
use Rattle.stream_store.specs.declared.reading.Found.{Found}

-- other messages in the place of its own
abbrev pub body_with : List Message → Body → Body
body_with messages body = record body { messages = messages }

abbrev pub with_messages : Durable → List Message → Durable
with_messages d messages = record d { body = option_map (body_with messages) d.body }

-- each file of a block is on the disk
abbrev pub AreSynced : Blocks → Disk → Type 0
AreSynced b disk = (file : ℕ) → has_block b file ≡ true → IsDurable disk file

-- the blocks of what the log told, and their messages; nothing but these is read of what is unread
pub record IsReadOf (read : LogRead) (found : Found) : Type 0 where
  pub messages : List Message
  pub told : AllZip IsToldBy (stored_messages read.durable) messages
  pub durable : found.durable ≡ with_messages read.durable messages
  pub table : found.table ≡ read.table

-- what was found is stored in the blocks
abbrev pub IsStoredBy : Disk → Found → Type 0
IsStoredBy disk found = AreStoredIn disk.seen found.table (last_of found.durable) (stored_messages found.durable)

-- the volume failed, memory ran out, or the blocks of what the log told are damaged
abbrev pub IsBlocksFault : LogRead → Disk → OpenFault → Type 0
IsBlocksFault read disk Fault = Unit {0}
IsBlocksFault read disk (Damaged file at) = AreDamaged disk.seen read.table (last_of read.durable) (stored_messages read.durable) file at
IsBlocksFault read disk (UnknownVersion n) = ⊥
IsBlocksFault read disk NoRoom = ⊥
IsBlocksFault read disk OutOfMemory = Unit {0}

-- the log and the blocks give it, and a stream can be restored to it
pub record IsFound (log : LogState) (disk : Disk) (found : Found) : Type 0 where
  pub last : (batches : List Bytes) → IsSettled log batches disk → (at : ℕ) × IsLastIn batches (logged found.durable found.table) at
  pub stored : IsStoredBy disk found
  pub openable : IsOpenable found.durable

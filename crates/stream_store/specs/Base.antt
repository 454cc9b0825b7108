-- What the volume of an open store holds: its base.
use Rattle.std.specs.Prelude.{◌≡◌, List, IsSome}
use Rattle.vol_disk.specs.Disk.{Disk}
use Rattle.vol_disk.specs.Images.{IsDurable}
use Rattle.vol_disk.specs.Moments.{LeavesOnly}
use Rattle.js_base.specs.Bytes.{Bytes}
use Rattle.gate_log.specs.LogState.{LogState, generation_of}
use Rattle.gate_log.specs.Settled.{IsSettled}
use Rattle.effects.specs.declared.durable.Durable.{Durable}
use Rattle.durable_checks.specs.Storable.{IsStorable}
use Rattle.block_table.specs.Blocks.{Blocks}
use Rattle.block_table.specs.Tables.{IsTable}
use Rattle.block_writing.specs.Writing.{BlocksStand}
use Rattle.stream_store.specs.Logs.{LogIn, HasLogs, current_file}
use Rattle.stream_store.specs.Rooms.{AreRooms}
use Rattle.stream_store.specs.StoreState.{StoreState}
use Rattle.log_records.specs.Logged.{IsLogged}
use Rattle.stream_store.specs.Holding.{Holds, HoldsIn, AllHold, logged}

-- The store's log is the current one, and what is known of it is what its file holds. The blocks are those of what the log gives. Both logs are on the disk,
-- and each block is up to its end, so a crash now leaves the base.
pub record IsBaseOf (log : LogState) (b : Blocks) (base : Durable) (disk : Disk) : Type 0 where
  pub settled : (batches : List Bytes) × IsSettled log batches disk
  pub begun : IsSome (generation_of log)
  pub current : (zero one : LogIn) → HasLogs disk.seen zero one → current_file zero one ≡ log.file
  pub durable_zero : IsDurable disk 0
  pub durable_one : IsDurable disk 1
  pub table : IsTable b
  pub stand : BlocksStand b disk
  pub storable : IsStorable base
  pub given : IsLogged (logged base b)
  pub holds : HoldsIn disk.seen b base
  pub images : AllHold disk base

-- and its files are as long as is known
pub record IsBase (store : StoreState) (base : Durable) (disk : Disk) : Type 0 where
  pub of_log : IsBaseOf store.log store.blocks base disk
  pub rooms : AreRooms store.rooms disk

-- ---- what leaves it as it is

-- the base stays, whatever it was
abbrev pub KeepsBaseOf : LogState → Blocks → Disk → Disk → Type 0
KeepsBaseOf log b old new = (base : Durable) → IsBaseOf log b base old → IsBaseOf log b base new

-- a crash at any moment of the call leaves it
abbrev pub LeavesBaseOf : LogState → Blocks → Disk → Disk → Type 0
LeavesBaseOf log b old new = (base : Durable) → IsBaseOf log b base old → LeavesOnly old new (λ image. Holds image base)

-- so it is of any log and blocks
abbrev pub KeepsBases : Disk → Disk → Type 0
KeepsBases old new = (log : LogState) (b : Blocks) → KeepsBaseOf log b old new

abbrev pub LeavesBases : Disk → Disk → Type 0
LeavesBases old new = (log : LogState) (b : Blocks) → LeavesBaseOf log b old new

-- the store is another one, of the same base
abbrev pub MovesBase : (store after : StoreState) → Disk → Disk → Type 0
MovesBase store after old new = (base : Durable) → IsBase store base old → IsBase after base new

abbrev pub LeavesBase : StoreState → Disk → Disk → Type 0
LeavesBase store old new = LeavesBaseOf store.log store.blocks old new

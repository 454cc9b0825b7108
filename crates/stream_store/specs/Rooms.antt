-- How much room a store is known to have, by a rule of this server's own. What a file is long is its room: a write that ends within it needs no more of the disk.
--   Both logs are kept long enough for whatever the place comes to as the first batch of a next log. So what waits can always be committed: in the log if there
-- is room for it, and else by leaving the log.
use Rattle.std.specs.Prelude.{◌≡◌, ◌≤◌, ◌<◌, ◌+◌, ◌*◌, ◌^◌, ◌==◌, ◌&&◌, ℕ, nat_le, Bool, true, false, if◌then◌else◌, IfSome, Option, None, Some, length}
use Rattle.vol_disk.specs.Disk.{Disk}
use Rattle.js_base.specs.declared.spot.Spot.{Spot}
use Rattle.gate_log.specs.LogState.{LogState}
use Rattle.block_table.specs.declared.block.Block.{Block}
use Rattle.block_table.specs.Blocks.{Blocks, has_block}
use Rattle.stream_store.specs.declared.rooms.Rooms.{Rooms}

-- ---- what is known of files

-- nothing
abbrev pub no_rooms : Rooms
no_rooms = record { zero = 0; one = 0; reach = None }

-- each of them is at least as long as that
pub record AreRooms (rooms : Rooms) (disk : Disk) : Type 0 where
  pub in_zero : rooms.zero ≤ length (disk.seen 0)
  pub in_one : rooms.one ≤ length (disk.seen 1)
  pub in_reach : IfSome rooms.reach (λ k. k.end ≤ length (disk.seen k.file))
  -- and that for messages is behind those of the logs
  pub behind_logs : IfSome rooms.reach (λ k. 2 ≤ k.file)

abbrev pub room_of : Rooms → ℕ → ℕ
room_of rooms file = if file == 0 then rooms.zero else rooms.one

abbrev pub with_room : Rooms → (file len : ℕ) → Rooms
with_room rooms file len = if file == 0 then record rooms { zero = len } else record rooms { one = len }

-- no log is known to be longer than 2^31
pub record AreLogsShort (rooms : Rooms) : Type 0 where
  pub zero : rooms.zero ≤ 2 ^ 31
  pub one : rooms.one ≤ 2 ^ 31

-- the logs are known to be as long as before, or longer
pub record AreMore (old new : Rooms) : Type 0 where
  pub in_zero : old.zero ≤ new.zero
  pub in_one : old.one ≤ new.one

-- no file became shorter
abbrev pub AreLonger : Disk → Disk → Type 0
AreLonger old new = (file : ℕ) → length (old.seen file) ≤ length (new.seen file)

-- ---- messages

-- the file for messages reaches to the end of the spot
abbrev pub reaches : Option Block → Spot → Bool
reaches None spot = false
reaches (Some k) spot = (k.file == spot.file) && nat_le (spot.at + spot.len) k.end

-- what of it counts while the file is a block
abbrev pub block_reach : Blocks → Option Block → Option Block
block_reach b None = None
block_reach b (Some k) = if has_block b k.file then Some k else None

-- ---- logs

-- how much longer than the first batch of a next log each log is kept, so that one that was left for want of room takes some batches
abbrev pub spare : ℕ
spare = 2 ^ 16

-- both logs are long enough for a place that comes to so much
abbrev pub is_reserved : Rooms → ℕ → Bool
is_reserved rooms count = nat_le (count + spare) rooms.zero && nat_le (count + spare) rooms.one

abbrev pub AreReserved : Rooms → ℕ → Type 0
AreReserved rooms count = is_reserved rooms count ≡ true

-- no log is made so long
abbrev pub OutgrowsLogs : ℕ → Type 0
OutgrowsLogs count = 2 ^ 31 < count + spare

-- the log has room for a batch of so many bytes
abbrev pub HasLogRoom : LogState → Rooms → ℕ → Type 0
HasLogRoom log rooms count = log.end + 10 + count ≤ room_of rooms log.file

-- how long a log stays as it is left, if the place comes to so much
abbrev pub trim_limit : ℕ → ℕ
trim_limit count = 2 ^ 23 + 2 * (count + spare)

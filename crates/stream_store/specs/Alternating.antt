-- When the log of a volume is left for the other one, and what that leaves, by a rule of this server's own: a log is left once it is longer than its place comes
-- to as a first batch at most and 15/16 MiB, or than twice as much where that is more, and at the latest once it would be longer than 2^31 bytes. So what is written
-- for first batches is at most about what is written for changes. A log that has its first batch alone is not left, unless it has no room.
use Rattle.std.specs.Prelude.{◌<◌, ◌≤◌, ◌^◌, ◌==◌, ℕ, ◌+◌, ◌-◌, max, min, List, option_map, length, if◌then◌else◌}
use Rattle.std.specs.Option.{IsSomeAnd}
use Rattle.js_base.specs.Bytes.{Bytes}
use Rattle.effects.specs.declared.durable.Durable.{Durable}
use Rattle.effects.specs.declared.effect.Effect.{Effect}
use Rattle.block_table.specs.Blocks.{Blocks}
use Rattle.block_table.specs.Tables.{IsTable}
use Rattle.gate_log.specs.LogState.{LogState, new_log, with_batch}
use Rattle.state_snapshot.specs.Snapshots.{HasSpots, snapshot_of}
use Rattle.state_snapshot.specs.Spelling.{spelled_snapshot}
use Rattle.stream_store.specs.Placing.{blocks_then}
use Rattle.stream_store.specs.StoreState.{StoreState}

-- ---- when

-- how long a log may get whose place comes to so much at most: that of a small place stays within its first MiB
abbrev pub longest : ℕ → ℕ
longest bound = min (bound + max (2 ^ 20 - 2 ^ 16) bound) (2 ^ 31)

-- with a batch of so many bytes it would be longer, and it has one behind its first
pub record IsLong (log : LogState) (count bound : ℕ) : Type 0 where
  pub later : log.first_end < log.end
  pub long : longest bound < log.end + 10 + count

-- the next log would have a generation that none can have
abbrev pub IsWorn : LogState → Type 0
IsWorn log = IsSomeAnd log.head (λ generation. 2 ^ 62 ≤ generation + 1)

-- ---- the next log

abbrev pub other_file : ℕ → ℕ
other_file file = if file == 0 then 1 else 0

-- that of the other file and the next generation, without batches
abbrev pub begun_next : LogState → LogState
begun_next log = new_log (other_file log.file) (option_map (λ generation. generation + 1) log.head)

-- the batch that tells all of it, whose messages lie in these blocks
abbrev pub first_batch : Durable → Blocks → Bytes
first_batch d b = spelled_snapshot (snapshot_of d b)

abbrev pub first_length : Durable → Blocks → ℕ
first_length d b = length (first_batch d b)

-- A log that begins with it is no longer than that, wherever its messages lie.
abbrev pub IsWithinBound : Durable → ℕ → Type 0
IsWithinBound d bound = (b : Blocks) → IsTable b → HasSpots d b → 30 + first_length d b ≤ bound

-- the next log, behind these changes
abbrev pub next_log : StoreState → List Effect → Durable → LogState
next_log store effects next = with_batch (begun_next store.log) (first_length next (blocks_then store.blocks effects))

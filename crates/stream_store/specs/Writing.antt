-- What the writing of a commit needs, and what it leaves.
use Rattle.std.specs.Prelude.{◌≡◌, ◌≤◌, ◌+◌, ◌^◌, ◌⊎◌, List, [], All, IsSome, length}
use Rattle.vol_disk.specs.Disk.{Disk}
use Rattle.vol_disk.specs.Moments.{LeavesOnly}
use Rattle.effects.specs.declared.durable.Durable.{Durable}
use Rattle.effects.specs.declared.effect.Effect.{Effect}
use Rattle.gate_log.specs.LogState.{LogState}
use Rattle.gate_log.specs.Settled.{IsSettled}
use Rattle.block_table.specs.Blocks.{Blocks}
use Rattle.block_writing.specs.Runs.{AreApart, IsShort}
use Rattle.block_writing.specs.Writing.{AreWithin}
use Rattle.stream_store.specs.Alternating.{begun_next}
use Rattle.stream_store.specs.Base.{IsBaseOf}
use Rattle.stream_store.specs.Committing.{IsNextBatch}
use Rattle.stream_store.specs.Holding.{Holds}
use Rattle.stream_store.specs.Staging.{IsStaged, IsStagedFirst}
use Rattle.stream_store.specs.Steps.{with_steps}
use Rattle.stream_store.specs.declared.staging.Staged.{Staged}

-- no two runs are in one file, batches may be appended to the log, and with this one it is not too long
pub record IsReady (log : LogState) (staged : Staged) : Type 0 where
  pub short : All IsShort staged.runs.items
  pub apart : AreApart staged.runs.items
  pub head : IsSome log.head
  pub end : log.end + 10 + length staged.batch ≤ 2 ^ 31

-- the log has room for the batch, and each file for its run
pub record HasStagedRoom (log : LogState) (staged : Staged) (disk : Disk) : Type 0 where
  pub in_log : log.end + 10 + length staged.batch ≤ length (disk.seen log.file)
  pub in_files : AreWithin disk staged.runs.items

-- it was staged for changes that lead from the base of the disk to another
pub record IsStagedOn (log : LogState) (b : Blocks) (base next : Durable) (staged : Staged) (disk : Disk) : Type 0 where
  pub effects : List Effect
  pub base_is : IsBaseOf log b base disk
  pub next_is : IsNextBatch base effects next
  pub staged_is : IsStaged b effects staged

-- it was staged for such changes as the first batch of the next log, which is started
pub record IsStagedNext (log : LogState) (b : Blocks) (base next : Durable) (staged : Staged) (into : LogState) (disk : Disk) : Type 0 where
  pub effects : List Effect
  pub base_is : IsBaseOf log b base disk
  pub next_is : IsNextBatch base effects next
  pub staged_is : IsStagedFirst b effects next staged
  pub into_is : into ≡ begun_next log
  pub empty : IsSettled into [] disk

-- into this log
abbrev pub IsStagedFor : LogState → Staged → Disk → Type 0
IsStagedFor into staged disk = (log : LogState) × (b : Blocks) × (base : Durable) × (next : Durable) × IsStagedNext log b base next staged into disk

-- one or the other, into this log
abbrev pub IsStagedInto : LogState → Staged → Disk → Type 0
IsStagedInto into staged disk = ((b : Blocks) × (base : Durable) × (next : Durable) × IsStagedOn into b base next staged disk) ⊎ IsStagedFor into staged disk

-- at any moment a crash leaves the base or the other
abbrev pub LeavesStaged : LogState → Staged → Disk → Disk → Type 0
LeavesStaged log staged old new =
    (b : Blocks) (base next : Durable) → IsStagedOn log b base next staged old → LeavesOnly old new (λ image. Holds image base ⊎ Holds image next)

abbrev pub LeavesStagedNext : LogState → Staged → Disk → Disk → Type 0
LeavesStagedNext into staged old new =
    (log : LogState) (b : Blocks) (base next : Durable) → IsStagedNext log b base next staged into old → LeavesOnly old new (λ image. Holds image base ⊎ Holds image next)

-- the other is the base
abbrev pub IsWritten : LogState → LogState → Staged → Disk → Disk → Type 0
IsWritten log after staged old new =
    (b : Blocks) (base next : Durable) → IsStagedOn log b base next staged old → IsBaseOf after (with_steps staged.steps.items b) next new

abbrev pub IsWrittenNext : LogState → LogState → Staged → Disk → Disk → Type 0
IsWrittenNext into after staged old new =
    (log : LogState) (b : Blocks) (base next : Durable) → IsStagedNext log b base next staged into old → IsBaseOf after (with_steps staged.steps.items b) next new

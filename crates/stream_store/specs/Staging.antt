-- What a commit is going to write.
use Rattle.std.specs.Prelude.{◌≡◌, ◌<◌, ◌≤◌, ◌⊎◌, ◌==◌, ◌||◌, ℕ, List, [], All, Bool, true, false, if◌then◌else◌}
use Rattle.std.specs.Option.{option_to_list}
use Rattle.std.specs.List.{flat_map, list_any}
use Rattle.vol_disk.specs.Disk.{Disk}
use Rattle.effects.specs.declared.durable.Durable.{Durable}
use Rattle.effects.specs.declared.effect.Effect.{Effect}
use Rattle.op_records.specs.Spelling.{spelled_record}
use Rattle.block_table.specs.declared.block.Block.{Block}
use Rattle.block_table.specs.Blocks.{Blocks, blocks, has_block, is_among}
use Rattle.block_writing.specs.Dropping.{AreEmptied, ChangesUnused}
use Rattle.block_writing.specs.Laws.{ArePlannedBy}
use Rattle.block_writing.specs.declared.run.Run.{Run}
use Rattle.block_writing.specs.Planning.{Planned, spots_in}
use Rattle.stream_store.specs.Alternating.{first_batch}
use Rattle.stream_store.specs.Steps.{batch_steps, with_steps}
use Rattle.stream_store.specs.declared.staging.Staged.{Staged}

-- a block of a file, of which only its number counts
abbrev pub block_of : Run → Block
block_of run = record { file = run.file; end = 0 }

-- the blocks that a commit may leave without messages: all of them if messages go, and else the one being written, if another one is begun
abbrev pub blocks_of : Bool → Blocks → List Block
blocks_of all b = if all then blocks b else option_to_list b.writing

-- one of the runs is in the file
abbrev pub is_written : List Run → ℕ → Bool
is_written runs file = list_any (λ run. run.file == file) runs

-- none of them is in the file of a log
abbrev pub AreBehindLogs : List Block → Type 0
AreBehindLogs ks = All (λ k. 2 ≤ k.file) ks

-- What is planned for these changes, whatever the batch, and the blocks that they may leave without messages: each that was one and is none behind them, and
-- each in which they write.
pub record IsPrepared (b : Blocks) (es : List Effect) (staged : Staged) : Type 0 where
  pub made : Planned
  pub planned : ArePlannedBy b es made
  pub runs : staged.runs.items ≡ made.runs
  pub steps : staged.steps.items ≡ batch_steps es (spots_in made.records)
  pub behind : AreBehindLogs staged.blocks.items
  pub left : (file : ℕ) → has_block b file ≡ true → has_block (with_steps staged.steps.items b) file ≡ false → is_among staged.blocks.items file ≡ true
  pub begun : (file : ℕ) → is_written staged.runs.items file ≡ true → is_among staged.blocks.items file ≡ true
  pub only : (file : ℕ) → is_among staged.blocks.items file ≡ true → (has_block b file || is_written staged.runs.items file) ≡ true

-- the batch is the records of the changes
pub record IsStaged (b : Blocks) (es : List Effect) (staged : Staged) : Type 0 where
  pub prepared : IsPrepared b es staged
  pub batch : staged.batch ≡ flat_map spelled_record prepared.made.records
  pub bytes : All (λ byte. byte < 256) staged.batch

-- the batch tells all of what they lead to
pub record IsStagedFirst (b : Blocks) (es : List Effect) (next : Durable) (staged : Staged) : Type 0 where
  pub prepared : IsPrepared b es staged
  pub batch : staged.batch ≡ first_batch next (with_steps staged.steps.items b)
  pub bytes : All (λ byte. byte < 256) staged.batch

-- what is staged, and where messages lie then
pub record IsFirstWith (b : Blocks) (es : List Effect) (next : Durable) (staged : Staged) (table : Blocks) : Type 0 where
  pub staged_is : IsStagedFirst b es next staged
  pub table_is : table ≡ with_steps staged.steps.items b

-- no file is touched but those of blocks that the table has not, whenever a crash comes
pub record DropsUnused (b : Blocks) (old new : Disk) : Type 0 where
  pub ks : List Block
  pub behind_logs : AreBehindLogs ks
  pub changes : ChangesUnused b ks old new

-- those of them that the table has not are emptied, and none is to be cut any more; or memory ran out, and all are to be cut still
abbrev pub HasDropped : Blocks → List Block → List Block → Disk → Type 0
HasDropped b ks left disk = ((left ≡ []) × AreEmptied b ks disk) ⊎ (left ≡ ks)

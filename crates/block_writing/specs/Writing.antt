-- What the blocks of a volume hold while a commit writes them, and then.
use Rattle.std.specs.Prelude.{◌≡◌, ◌≢◌, ◌≤◌, ◌<◌, ℕ, ◌+◌, ◌==◌, ◌++◌, List, All, length, take, find, option_map, unwrap_or}
use Rattle.std.specs.Io.{StartsWith}
use Rattle.js_base.specs.Bytes.{Bytes}
use Rattle.effects.specs.declared.effect.Effect.{Effect}
use Rattle.op_records.specs.declared.record.Record.{Record}
use Rattle.vol_disk.specs.Disk.{Disk, Files}
use Rattle.vol_disk.specs.Does.{Rests}
use Rattle.vol_disk.specs.Moments.{LeavesOnly}
use Rattle.message_block.specs.Standing.{Stands}
use Rattle.block_table.specs.Blocks.{Blocks, blocks}
use Rattle.block_reading.specs.Standing.{StandsAt}
use Rattle.block_writing.specs.declared.run.Run.{Run}
use Rattle.block_writing.specs.Runs.{AreStoredBy}

-- ---- blocks

-- how far the file is written, 0 if it is no block
abbrev pub end_in : Blocks → ℕ → ℕ
end_in b file = unwrap_or (option_map (λ k. k.end) (find (λ k. k.file == file) (blocks b))) 0

-- the committed bytes of a file
abbrev pub front_in : Blocks → Files → ℕ → Bytes
front_in b image file = take (end_in b file) (image file)

-- each block is as long as it is written, and stands so far, whatever a crash now leaves
pub record BlocksStand (b : Blocks) (disk : Disk) : Type 0 where
  pub long : (file : ℕ) → end_in b file ≤ length (disk.seen file)
  pub stand : (file : ℕ) → Stands disk file (front_in b disk.seen file)

-- ---- runs

-- the run ends within its file
abbrev pub IsWithin : Disk → Run → Type 0
IsWithin disk run = run.at + length run.bytes ≤ length (disk.seen run.file)

-- each of them does
abbrev pub AreWithin : Disk → List Run → Type 0
AreWithin disk runs = All (IsWithin disk) runs

-- no file became longer or shorter
abbrev pub AreAsLong : Disk → Disk → Type 0
AreAsLong old new = (file : ℕ) → length (new.seen file) ≡ length (old.seen file)

-- no run is in the file
abbrev pub IsUntouched : List Run → ℕ → Type 0
IsUntouched runs file = All (λ run. run.file ≢ file) runs

-- so many bytes of the file are in front of each run that is in it
abbrev pub IsInFront : List Run → ℕ → ℕ → Type 0
IsInFront runs file count = All (λ run. run.file ≡ file → count ≤ run.at) runs

-- a file begins with what stood in front of the runs, and is as it might have been left before if none is in it
pub record AreKept (runs : List Run) (fronts : ℕ → Bytes) (old : Disk) (image : Files) : Type 0 where
  pub front : (file : ℕ) → StartsWith (image file) (fronts file)
  pub untouched : (file : ℕ) → IsUntouched runs file → old.leaves file (image file)

-- what stood in front of the runs stands, and no other file is touched, whenever a crash comes
pub record ChangesRuns (runs : List Run) (old new : Disk) : Type 0 where
  pub elsewhere : (file : ℕ) → IsUntouched runs file → Rests file old new
  pub stands : (file : ℕ) (front : Bytes) → IsInFront runs file (length front) → Stands old file front → Stands new file front
  pub any_moment :
      (fronts : ℕ → Bytes) → ((file : ℕ) → IsInFront runs file (length (fronts file))) → ((file : ℕ) → Stands old file (fronts file))
      → LeavesOnly old new (AreKept runs fronts old)

-- the run stands behind what was in front of it
abbrev pub IsWritten : Disk → Disk → Run → Type 0
IsWritten old new run = Stands new run.file (take run.at (old.seen run.file) ++ run.bytes)

-- ---- a commit

-- the blocks are as far as they were written, and the logs are as they might have been left before
pub record KeepsBlocks (b : Blocks) (old : Disk) (image : Files) : Type 0 where
  pub blocks : (file : ℕ) → StartsWith (image file) (front_in b old.seen file)
  pub logs : (file : ℕ) → file < 2 → old.leaves file (image file)

-- each message is at its spot behind what the blocks held
pub record HasMessages (b : Blocks) (es : List Effect) (rs : List Record) (old : Disk) (image : Files) : Type 0 where
  pub messages : AreStoredBy (StandsAt image) es rs
  pub blocks : (file : ℕ) → StartsWith (image file) (front_in b old.seen file)

-- as it reads, and whatever a crash now leaves
pub record HasStored (b : Blocks) (es : List Effect) (rs : List Record) (old new : Disk) : Type 0 where
  pub read : HasMessages b es rs old new.seen
  pub left : (image : Files) → ((file : ℕ) → new.leaves file (image file)) → HasMessages b es rs old image

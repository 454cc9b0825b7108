-- What the clearing of a volume leaves: of the log that is not current, and of files that are no blocks, in which a crash may have left bytes. By a rule of this
-- server's own.
use Rattle.std.specs.Prelude.{◌≡◌, ◌≢◌, ◌⊎◌, ◌<◌, ℕ, true, false, None, []}
use Rattle.vol_disk.specs.Disk.{Disk, Files}
use Rattle.vol_disk.specs.Does.{Rests}
use Rattle.vol_disk.specs.Images.{IsDurable}
use Rattle.vol_disk.specs.Moments.{LeavesOnly}
use Rattle.js_base.specs.Bytes.{Bytes}
use Rattle.block_table.specs.Blocks.{Blocks, has_block}
use Rattle.block_table.specs.Tables.{IsFile}
use Rattle.gate_log.specs.LogFile.{HasOpen}
use Rattle.gate_log.specs.LogState.{LogState}
use Rattle.stream_store.specs.Alternating.{other_file}
use Rattle.stream_store.specs.StoreState.{StoreState}

-- ---- the log that is not current

-- whatever a crash leaves now of its file holds nothing: its first gate is closed, and behind it may be anything
abbrev pub IsOtherClosed : LogState → Disk → Type 0
IsOtherClosed log disk = (bytes : Bytes) → disk.leaves (other_file log.file) bytes → HasOpen bytes None []

-- it stays so
abbrev pub KeepsClosed : Disk → Disk → Type 0
KeepsClosed old new = (log : LogState) → IsOtherClosed log old → IsOtherClosed log new

-- ---- files that are no blocks

-- the file reads as empty, and a crash leaves nothing of bytes that it had
pub record IsCleared (old new : Disk) (file : ℕ) : Type 0 where
  pub empty : new.seen file ≡ []
  pub durable : old.seen file ≢ [] → IsDurable new file

-- so does each file that could be a block and is none
abbrev pub AreCleared : Blocks → Disk → Disk → Type 0
AreCleared b old new = (file : ℕ) → IsFile file → has_block b file ≡ false → IsCleared old new file

-- ---- files that are used

-- the file is that of a log or of a block
abbrev pub IsUsed : Blocks → ℕ → Type 0
IsUsed b file = (file < 2) ⊎ (has_block b file ≡ true)

-- the file is that of the current log or of a block
abbrev pub IsUsedBy : StoreState → ℕ → Type 0
IsUsedBy store file = (file ≡ store.log.file) ⊎ (has_block store.blocks file ≡ true)

-- the used files are left as they might have been left before
abbrev pub AreUsedLeft : (ℕ → Type 0) → Disk → Files → Type 0
AreUsedLeft Used old image = (file : ℕ) → Used file → old.leaves file (image file)

-- no used file is touched, whenever a crash comes, and no file that has no bytes
pub record Spares (Used : ℕ → Type 0) (old new : Disk) : Type 0 where
  pub used : (file : ℕ) → Used file → Rests file old new
  pub empty : (file : ℕ) → old.seen file ≡ [] → Rests file old new
  pub any_moment : LeavesOnly old new (AreUsedLeft Used old)

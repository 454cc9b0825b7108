-- What the dropping of blocks leaves.
use Rattle.std.specs.Prelude.{◌≡◌, ℕ, ◌&&◌, Bool, true, false, not, List, []}
use Rattle.vol_disk.specs.Disk.{Disk, Files}
use Rattle.vol_disk.specs.Does.{Rests}
use Rattle.vol_disk.specs.Images.{IsDurable}
use Rattle.vol_disk.specs.Moments.{LeavesOnly}
use Rattle.block_table.specs.declared.block.Block.{Block}
use Rattle.block_table.specs.Blocks.{Blocks, has_block, is_among}

-- one of these blocks is in the file, and it is none of the table
abbrev pub is_unused : Blocks → List Block → ℕ → Bool
is_unused b ks file = is_among ks file && not (has_block b file)

-- the other files are left as they might have been left before
abbrev pub AreUsedKept : Blocks → List Block → Disk → Files → Type 0
AreUsedKept b ks old image = (file : ℕ) → is_unused b ks file ≡ false → old.leaves file (image file)

-- no file is touched but those of blocks that are unused, whenever a crash comes
pub record ChangesUnused (b : Blocks) (ks : List Block) (old new : Disk) : Type 0 where
  pub elsewhere : (file : ℕ) → is_unused b ks file ≡ false → Rests file old new
  pub any_moment : LeavesOnly old new (AreUsedKept b ks old)

-- the file reads as empty, and a crash leaves nothing of it
pub record IsEmptied (disk : Disk) (file : ℕ) : Type 0 where
  pub empty : disk.seen file ≡ []
  pub durable : IsDurable disk file

-- each file of a block that is unused is emptied
abbrev pub AreEmptied : Blocks → List Block → Disk → Type 0
AreEmptied b ks disk = (file : ℕ) → is_unused b ks file ≡ true → IsEmptied disk file

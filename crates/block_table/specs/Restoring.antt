-- How a table is made again of its messages and blocks, this server's own: the blocks are kept under their files.
use Rattle.std.specs.Prelude.{◌≡◌, ◌<◌, ◌^◌, ℕ, Bool, false, ◌==◌, nat_le, List, Option, Some, None, find, option_map, if◌then◌else◌}
use Rattle.std.specs.BTreeMap.{get}
use Rattle.std.specs.Ordering.{nat_cmp}
use Rattle.js_base.specs.declared.spot.Spot.{Spot}
use Rattle.block_table.specs.declared.block.Block.{Block}
use Rattle.block_table.specs.declared.ends.FileEnds.{FileEnds}
use Rattle.block_table.specs.declared.placed.Placed.{Placed}
use Rattle.block_table.specs.Blocks.{Blocks}
use Rattle.block_table.specs.Puts.{end_of}
use Rattle.block_table.specs.Tables.{AreBlocks, IsFile}

-- the table with these messages and blocks
abbrev pub table_of : List Placed → List Block → Option Block → Blocks
table_of placed older writing = record { placed = placed; older = older; writing = writing }

-- how far the block of the file is written, if there is one
abbrev pub end_in : List Block → ℕ → Option ℕ
end_in ks file = option_map (λ k. k.end) (find (λ k. k.file == file) ks)

abbrev pub end_at : FileEnds → ℕ → Option ℕ
end_at ends file = get nat_cmp ends.ends file

-- with the block
abbrev pub EndsWith : FileEnds → Block → FileEnds → Type 0
EndsWith old k new = (file : ℕ) → end_at new file ≡ (if file == k.file then Some k.end else end_at old file)

-- the block is in a file that can be one, and of which there is none yet
pub record IsNewBlock (ends : FileEnds) (k : Block) : Type 0 where
  pub file : IsFile k.file
  pub absent : end_at ends k.file ≡ None
  pub low : k.end < 2 ^ 32

pub record AreEnds (ks : List Block) (ends : FileEnds) : Type 0 where
  pub blocks : AreBlocks ks
  pub at : (file : ℕ) → end_at ends file ≡ end_in ks file

abbrev pub is_within : ℕ → Option ℕ → Bool
is_within end None = false
is_within end (Some most) = nat_le end most

-- whether the spot lies in what is written of its file
abbrev pub lies_at : FileEnds → Spot → Bool
lies_at ends spot = is_within (end_of spot) (end_at ends spot.file)

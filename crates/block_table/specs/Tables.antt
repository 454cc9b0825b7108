-- What is true of every table.
use Rattle.std.specs.Prelude.{◌≡◌, ◌<◌, ◌≤◌, ◌^◌, ℕ, Bool, true, false, ◌&&◌, ◌==◌, nat_le, List, [], ◌∷◌, All, map, ⊤}
use Rattle.std.specs.List.{list_any}
use Rattle.std.specs.List.Sorted.{IsStrictlySortedBy}
use Rattle.std.specs.Ordering.{nat_cmp}
use Rattle.js_base.specs.declared.spot.Spot.{Spot}
use Rattle.block_table.specs.declared.block.Block.{Block}
use Rattle.block_table.specs.declared.placed.Placed.{Placed}
use Rattle.block_table.specs.Blocks.{Blocks, blocks, has_block, is_among, is_used}
use Rattle.block_table.specs.Puts.{end_of}

-- no two of the blocks are in one file
abbrev pub AreApart : List Block → Type 0
AreApart [] = ⊤
AreApart (k ∷ ks) = (is_among ks k.file ≡ false) × AreApart ks

-- whether the spot lies in what is written of one of the blocks
abbrev pub lies_in : List Block → Spot → Bool
lies_in ks spot = list_any (λ k. k.file == spot.file && nat_le (end_of spot) k.end) ks

-- not that of a log, and one whose number two bytes can tell
pub record IsFile (file : ℕ) : Type 0 where
  pub low : 2 ≤ file
  pub high : file ≤ 65535

-- no two of the blocks are in one file, each is in a file that can be one, and how far it is written four bytes can tell
pub record AreBlocks (ks : List Block) : Type 0 where
  pub apart : AreApart ks
  pub files : All (λ k. IsFile k.file) ks
  pub ends : All (λ k. k.end < 2 ^ 32) ks

abbrev pub AreRising : List Placed → Type 0
AreRising placed = IsStrictlySortedBy nat_cmp (map (λ p. p.seq) placed)

-- the sequences rise, each message lies in what is written of a block, and each block that is not being written holds a message
pub record IsTable (b : Blocks) : Type 0 where
  pub rising : AreRising b.placed
  pub blocks_are : AreBlocks (blocks b)
  pub inside : All (λ p. lies_in (blocks b) p.spot ≡ true) b.placed
  pub held : All (λ k. is_used b.placed k.file ≡ true) b.older

-- every file from 2 to below this one is a block
pub record AreBlocksBelow (free : ℕ) (b : Blocks) : Type 0 where
  pub low : 2 ≤ free
  pub taken : (file : ℕ) → 2 ≤ file → file < free → has_block b file ≡ true

-- what is true of a table, and of the file from which on a free one is sought
pub record IsKept (free : ℕ) (b : Blocks) : Type 0 where
  pub table : IsTable b
  pub below : AreBlocksBelow free b

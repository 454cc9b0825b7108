-- Where the stored messages of a stream lie in the blocks of a volume, this server's own.
use Rattle.std.specs.Prelude.{ℕ, Bool, ◌==◌, List, [], ◌++◌, Option, None, filter, find, option_map}
use Rattle.std.specs.List.{list_any}
use Rattle.std.specs.Option.{option_to_list}
use Rattle.js_base.specs.declared.spot.Spot.{Spot}
use Rattle.block_table.specs.declared.block.Block.{Block}
use Rattle.block_table.specs.declared.placed.Placed.{Placed}

-- the stored messages in the order of their sequences; the blocks that hold some of them and are not written any more, in any order; and
-- the block being written, if there is one
pub record Blocks : Type 0 where
  pub placed : List Placed
  pub older : List Block
  pub writing : Option Block

-- what a stream has that stored nothing yet
abbrev pub no_blocks : Blocks
no_blocks = record { placed = []; older = []; writing = None }

-- all blocks, the one being written last
abbrev pub blocks : Blocks → List Block
blocks b = b.older ++ option_to_list b.writing

-- whether one of these blocks is in the file
abbrev pub is_among : List Block → ℕ → Bool
is_among ks file = list_any (λ k. k.file == file) ks

-- whether the file is a block
abbrev pub has_block : Blocks → ℕ → Bool
has_block b file = is_among (blocks b) file

-- whether one of these messages lies in the file
abbrev pub is_used : List Placed → ℕ → Bool
is_used placed file = list_any (λ p. p.spot.file == file) placed

-- those of the blocks that hold one of these messages
abbrev pub used : List Placed → List Block → List Block
used placed ks = filter (λ k. is_used placed k.file) ks

-- where a stored message lies
abbrev pub spot_of : List Placed → ℕ → Option Spot
spot_of placed seq = option_map (λ p. p.spot) (find (λ p. p.seq == seq) placed)

-- The end of a batch, by a rule of this server's own: a block of some size without messages is written no more, and so is none. Within a batch it stays, since
-- the messages of the batch were placed by the table before it.
use Rattle.std.specs.Prelude.{◌≡◌, ◌≤◌, ◌^◌, ℕ, Bool, true, ◌&&◌, not, nat_le, if◌then◌else◌, List, Option, Some, None, length}
use Rattle.block_table.specs.declared.block.Block.{Block}
use Rattle.block_table.specs.declared.placed.Placed.{Placed}
use Rattle.block_table.specs.Blocks.{Blocks, blocks, has_block, is_used}
use Rattle.block_table.specs.Tables.{IsTable}

-- the block has 1 MiB or more, and holds none of these messages
abbrev pub is_left : List Placed → Block → Bool
is_left placed k = nat_le (2 ^ 20) k.end && not (is_used placed k.file)

-- the block that is written on
abbrev pub written_on : List Placed → Option Block → Option Block
written_on placed None = None
written_on placed (Some k) = if is_left placed k then None else Some k

-- the table behind a batch
abbrev pub closed : Blocks → Blocks
closed b = record b { writing = written_on b.placed b.writing }

pub record LawClosed : Type 0 where
  pub table : (b : Blocks) → IsTable b → IsTable (closed b)
  -- no file becomes a block by it
  pub block : (b : Blocks) (file : ℕ) → has_block (closed b) file ≡ true → has_block b file ≡ true
  pub fewer : (b : Blocks) → length (blocks (closed b)) ≤ length (blocks b)
  -- a file that holds a message stays one
  pub used : (b : Blocks) (file : ℕ) → is_used b.placed file ≡ true → has_block b file ≡ true → has_block (closed b) file ≡ true
  pub again : (b : Blocks) → closed (closed b) ≡ closed b

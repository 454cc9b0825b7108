-- How many files are in use: those that are blocks, and those that a batch has begun. As long as these are fewer than all, one is free. This
-- server's own.
use Rattle.std.specs.Prelude.{◌≡◌, ◌≤◌, ◌<◌, ℕ, ◌+◌, ◌-◌, true, not, length, filter, is_some, IfSome}
use Rattle.std.specs.List.{range_with_len}
use Rattle.block_table.specs.declared.placing.Placing.{Placing}
use Rattle.block_table.specs.Blocks.{Blocks, blocks, has_block}
use Rattle.block_table.specs.Tables.{IsTable}
use Rattle.block_table.specs.Placings.{placing, place}

-- how many files below this one are no blocks: a batch began these, since each time it begins the lowest free one
abbrev pub begun_below : Blocks → ℕ → ℕ
begun_below b from = length (filter (λ file. not (has_block b file)) (range_with_len 2 (from - 2)))

abbrev pub in_use : Blocks → Placing → ℕ
in_use b p = length (blocks b) + begun_below b p.from

pub record LawRoom : Type 0 where
  -- of the 65,534 files from 2 to 65,535 one is free, so there is a place for a message of any length
  pub room : (b : Blocks) (p : Placing) (len : ℕ) → in_use b p < 65534 → is_some (place b len p) ≡ true
  -- before a batch
  pub first : (b : Blocks) → in_use b (placing b) ≡ length (blocks b)
  -- a message begins one file at most
  pub one : (b : Blocks) (p : Placing) (len : ℕ) → IfSome (place b len p) (λ r. in_use b r.1 ≤ in_use b p + 1)
  -- each block but the one being written holds a message
  pub held : (b : Blocks) → IsTable b → length (blocks b) ≤ length b.placed + 1

-- Where in a record that does not fit the field stands that is wrong, counted from the record's kind. What does not fit what outlives a crash is told before
-- a spot at which the message cannot lie. By the spelling of records.
use Rattle.std.specs.Prelude.{ℕ, ◌+◌, ◌==◌, nat_lt, not, Bool, false, ◌||◌, ◌&&◌, length, Option, Some, None, if◌then◌else◌}
use Rattle.js_base.specs.declared.spot.Spot.{Spot}
use Rattle.effects.specs.declared.durable.Durable.{Durable}
use Rattle.effects.specs.Folding.{fold}
use Rattle.op_records.specs.declared.record.Record.{Record}
use Rattle.op_records.specs.declared.record.Record.TheVariants.{Put, Change}
use Rattle.block_table.specs.declared.block.Block.{Block}
use Rattle.block_table.specs.Blocks.{Blocks, has_block}
use Rattle.block_table.specs.Puts.{goes_on, begins}
use Rattle.record_fold.specs.Misfits.{kind_at, misfit}
use Rattle.log_records.specs.Logged.{Logged, effect_of}

-- The file of a spot stands behind a sequence, a moment and an id of so many bytes; behind it stand its offset, and its length.
abbrev pub file_at : ℕ → ℕ
file_at id = 19 + id

abbrev pub offset_at : ℕ → ℕ
offset_at id = file_at id + 2

abbrev pub length_at : ℕ → ℕ
length_at id = file_at id + 6

abbrev pub is_file_of : ℕ → Option Block → Bool
is_file_of file None = false
is_file_of file (Some block) = file == block.file

-- the file of a log, or a block other than the one being written
abbrev pub is_wrong_file : ℕ → Blocks → Bool
is_wrong_file file b = nat_lt file 2 || (has_block b file && not (is_file_of file b.writing))

abbrev pub spot_misfit : ℕ → Spot → Blocks → ℕ
spot_misfit id spot b =
    if is_wrong_file spot.file b then file_at id else if goes_on spot b.writing || begins spot b then length_at id else offset_at id

-- each change fits the blocks
abbrev pub blocks_misfit : Record → Blocks → ℕ
blocks_misfit (Put seq at id spot) b = spot_misfit (length id) spot b
blocks_misfit (Change e) b = kind_at

abbrev pub misfit_behind : Option Durable → Logged → Record → ℕ
misfit_behind None g r = misfit g.durable (effect_of r)
misfit_behind (Some d) g r = blocks_misfit r g.blocks

unfoldable pub misfit_of : Logged → Record → ℕ
misfit_of g r = misfit_behind (fold g.durable (effect_of r)) g r

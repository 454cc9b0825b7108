use Rattle.std.proofs.Common.{◌≡◌, ℕ, ◌≤◌, ◌<◌, List, [], ◌∷◌, length, None, Ok, Err, refl, ap, ◌∙◌, arith}
use Rattle.js_base.specs.Bytes.{Bytes}
use Rattle.op_records.specs.Steps.{continued}
use Rattle.op_records.specs.declared.fault.RecordFault.TheVariants.{BadField}
use Rattle.block_table.specs.declared.block.Block.{Block}
use Rattle.state_snapshot.specs.Reading.{none_or_one, writing_field}
use Rattle.state_snapshot.proofs.reading.writing.Goals as goal

none_there : (begin : ℕ) (ks : List Block) (bytes : Bytes) (at : ℕ) → length ks < 1 → none_or_one begin ks bytes at ≡ Ok (None, at)
none_there begin [] bytes at few = refl
none_there begin (k ∷ ks) bytes at few = absurd (omega (arith, few))

more_there : (begin : ℕ) (ks : List Block) (bytes : Bytes) (at : ℕ) → 2 ≤ length ks → none_or_one begin ks bytes at ≡ Err (BadField begin)
more_there begin [] bytes at many = absurd (omega (arith, many))
more_there begin (k ∷ []) bytes at many = absurd (omega (arith, many))
more_there begin (k ∷ l ∷ ks) bytes at many = refl

pub returns-in-empty-clause-reading : goal.returns-in-empty-clause-reading
unfolding writing_field
returns-in-empty-clause-reading c =
    let bytes = c.args.reader.now.bytes.now in
    let at = c.args.reader.now.at in
    ap (continued bytes (none_or_one at)) c.in_ok-blocks.ensures.reading ∙ none_there at c.in_ok-blocks.blocks bytes c.read_list.new.reader.at (omega (arith, ap length c.as_slice.ensures))

pub returns-clause-reading : goal.returns-clause-reading
unfolding writing_field
returns-clause-reading c =
    let bytes = c.args.reader.now.bytes.now in
    let at = c.args.reader.now.at in
    ap (continued bytes (none_or_one at)) c.in_ok-blocks.ensures.reading ∙ more_there at c.in_ok-blocks.blocks bytes c.read_list.new.reader.at (omega (arith, ap length c.as_slice.ensures))

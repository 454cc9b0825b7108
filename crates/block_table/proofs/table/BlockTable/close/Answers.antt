use Rattle.std.proofs.Common.{sym, ◌∙◌}
use Rattle.block_table.specs.Blocks.{Blocks}
use Rattle.block_table.proofs.Closing.{left_unused, table_unwritten, below_unwritten}
use Rattle.block_table.proofs.table.BlockTable.close.Goals as goal

pub invariant_of-self : goal.invariant_of-self
invariant_of-self c =
    let i = c.self.inside in
    let b : Blocks = record { placed = i.messages; older = i.older.items; writing = i.writing } in
    let k = c.in-Some.block in
    let unused = left_unused i.messages k (sym c.is_left.ensures ∙ c.if-is_left.true) in
    rw c.min-self-inside.ensures (record {
      table = table_unwritten b k c.in-Some.is unused c.self.invariant.table;
      below = below_unwritten b k c.in-Some.is unused i.free c.self.invariant.table c.self.invariant.below;
    })

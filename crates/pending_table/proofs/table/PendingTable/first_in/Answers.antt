use Rattle.std.proofs.Common.{refl, sym, ◌∙◌}
use Rattle.pending_table.specs.Trees.{entries}
use Rattle.pending_table.proofs.Around.{ordered}
use Rattle.pending_table.proofs.Changed.{range_first, range_past, range_empty}
use Rattle.pending_table.proofs.table.PendingTable.first_in.Goals as goal

pub at_or_after-requires : goal.at_or_after-requires
at_or_after-requires c = record { ordered = ordered c.self.inside.tree c.self.invariant.ascending }

pub returns-in_err-seq : goal.returns-in_err-seq
returns-in_err-seq c =
    record { value = rw (← c.self.view_is) (c.from_residual.ensures ∙ range_empty c.args.low c.args.high (entries c.self.inside.tree) _ refl (sym c.in_err-seq.was ∙ c.at_or_after.ensures.value)) }

pub returns-then-seq-high : goal.returns-then-seq-high
returns-then-seq-high c =
    record {
      value = rw (← c.self.view_is)
          (range_first c.args.low c.args.high (entries c.self.inside.tree) c.in_ok-seq.seq _ refl (sym c.in_ok-seq.was ∙ c.at_or_after.ensures.value) c.if-seq-high.true);
    }

pub returns-else-seq-high : goal.returns-else-seq-high
returns-else-seq-high c =
    record {
      value = rw (← c.self.view_is)
          (range_past c.args.low c.args.high (entries c.self.inside.tree) c.self.invariant.ascending c.in_ok-seq.seq _ refl (sym c.in_ok-seq.was ∙ c.at_or_after.ensures.value) c.if-seq-high.false);
    }

use Rattle.std.proofs.Common.{refl, sym, ◌∙◌}
use Rattle.std.specs.Prelude.{nat_le}
use Rattle.pending_table.specs.Trees.{entries}
use Rattle.pending_table.proofs.Around.{ordered}
use Rattle.pending_table.proofs.Changed.{found_own, not_found}
use Rattle.pending_table.proofs.table.PendingTable.at_or_after.Goals as goal

pub at_or_after-requires : goal.at_or_after-requires
at_or_after-requires c = record { ordered = ordered c.self.inside.tree c.self.invariant.ascending }

pub get-requires : goal.get-requires
get-requires c = record { ordered = ordered c.self.inside.tree c.self.invariant.ascending }

pub returns-in_err-least : goal.returns-in_err-least
returns-in_err-least c =
    record { value = rw (← c.self.view_is) (c.from_residual.ensures ∙ sym (not_found (λ p. nat_le c.args.seq p.seq) (entries c.self.inside.tree) _ refl (sym c.in_err-least.was ∙ c.at_or_after.ensures.value))) }

pub returns : goal.returns
returns c =
    record {
      value = rw (← c.self.view_is)
          (c.get.ensures.value ∙ found_own (λ p. nat_le c.args.seq p.seq) (entries c.self.inside.tree) c.self.invariant.ascending c.in_ok-least.least _ refl (sym c.in_ok-least.was ∙ c.at_or_after.ensures.value));
    }

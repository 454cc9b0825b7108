use Rattle.std.proofs.Common.{refl, sym, subst, ◌∙◌}
use Rattle.std.proofs.lemmas.Bool.{true≢false}
use Rattle.model_laws.specs.Sound.{AreOrdered}
use Rattle.log_records.proofs.beginning.held_of.Goals as goal

pub returns-then-not-are_in_order-clause-storable : goal.returns-then-not-are_in_order-clause-storable
returns-then-not-are_in_order-clause-storable c =
    (λ e. absurd (true≢false (sym e)), λ s. absurd (true≢false (sym (c.are_in_order.ensures.value.1 (subst AreOrdered (sym c.as_slice.ensures) s.stored.ordered)) ∙ c.if-not-are_in_order.true)))

pub is_storable-requires : goal.is_storable-requires
is_storable-requires c = record { formed = c.requires.formed (subst AreOrdered c.as_slice.ensures (c.are_in_order.ensures.value.0 c.if-not-are_in_order.false)) }

pub returns-then-not-branch-clause-storable : goal.returns-then-not-branch-clause-storable
returns-then-not-branch-clause-storable c = (λ e. absurd (true≢false (sym e)), λ s. absurd (true≢false (sym (c.in_ok-is_storable.ensures.value.1 s) ∙ c.if-not-branch.true)))

pub of-requires : goal.of-requires
of-requires c = record {
  formed = c.requires.formed (subst AreOrdered c.as_slice.ensures (c.are_in_order.ensures.value.0 c.if-not-are_in_order.false));
  storable = c.in_ok-is_storable.ensures.value.0 c.if-not-branch.false;
}

pub returns-clause-storable : goal.returns-clause-storable
returns-clause-storable c = (λ e. c.in_ok-is_storable.ensures.value.0 c.if-not-branch.false, λ s. refl)

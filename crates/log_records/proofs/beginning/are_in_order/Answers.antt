use Rattle.std.proofs.Common.{◌≤◌, length, refl, sym, subst, ◌∙◌, arith}
use Rattle.std.proofs.lemmas.Bool.{true≢false}
use Rattle.std.proofs.lemmas.List.{take_all}
use Rattle.model_laws.specs.Sound.{AreOrdered}
use Rattle.log_records.proofs.Ordering.{first_ordered, ordered_next, unordered_at}
use Rattle.log_records.proofs.beginning.are_in_order.Goals as goal

pub loop-place-init : goal.loop-place-init
loop-place-init c = first_ordered c.args.consumers.now

pub loop-place-preserved : goal.loop-place-preserved
loop-place-preserved c =
    ordered_next c.args.consumers.now c.loop-place.place c.index-consumers-before.result c.index-consumers-place.result (omega arith) c.loop-place-test.true c.index-consumers-before.is c.index-consumers-place.is c.loop-place.invariant
    (sym c.is_before.ensures.value ∙ c.if-not-is_before.false)

pub returns-then-not-is_before : goal.returns-then-not-is_before
returns-then-not-is_before c = record {
  value = (
    λ e. absurd (true≢false (sym e)),
    λ h. absurd (unordered_at c.args.consumers.now c.loop-place.place c.index-consumers-before.result c.index-consumers-place.result (omega arith) c.loop-place-test.true c.index-consumers-before.is c.index-consumers-place.is
        (sym c.is_before.ensures.value ∙ c.if-not-is_before.true) h),
  );
}

pub returns : goal.returns
returns c =
    let end : length c.args.consumers.now ≤ c.loop-place.place = omega arith in
    record { value = (λ e. subst AreOrdered (take_all c.loop-place.place c.args.consumers.now end) c.loop-place.invariant, λ h. refl) }

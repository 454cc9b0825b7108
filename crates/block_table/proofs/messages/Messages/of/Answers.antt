use Rattle.std.proofs.Common.{sym, subst, ◌∙◌}
use Rattle.std.proofs.lemmas.List.{take_all}
use Rattle.block_table.specs.Tables.{AreRising}
use Rattle.block_table.proofs.Restored.{more_placed, none_rise, not_rising, rising_next}
use Rattle.block_table.proofs.messages.Messages.of.Goals as goal

pub loop-one-init : goal.loop-one-init
loop-one-init c = record { added = c.new-messages.ensures.empty; rising = none_rise }

pub returns-then-not-is_above-clause-none : goal.returns-then-not-is_above-clause-none
returns-then-not-is_above-clause-none c = λ none.
    not_rising c.args.placed.now c.loop-one.one-index _ c.loop-one.messages c.loop-one-test.true c.loop-one.invariant.added (sym c.is_above.ensures.value ∙ c.if-not-is_above.true)

pub loop-one-preserved : goal.loop-one-preserved
loop-one-preserved c =
    let ps = c.args.placed.now in
    let i = c.loop-one.one-index in
    record {
      added = c.in_ok-push.ensures.ok ∙ more_placed ps i _ c.loop-one.messages c.loop-one-test.true c.loop-one.invariant.added;
      rising = rising_next ps i _ c.loop-one.messages c.loop-one-test.true c.loop-one.invariant.added c.loop-one.invariant.rising (sym c.is_above.ensures.value ∙ c.if-not-is_above.false);
    }

pub returns-clause-some : goal.returns-clause-some
returns-clause-some c =
    let whole = take_all c.loop-one.one-index c.args.placed.now c.loop-one-test.false in
    (c.loop-one.invariant.added ∙ whole, subst AreRising whole c.loop-one.invariant.rising)

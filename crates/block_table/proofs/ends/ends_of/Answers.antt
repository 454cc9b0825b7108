use Rattle.std.proofs.Common.{◌++◌, List, Option, sym, subst, ◌∙◌, append-nil}
use Rattle.std.specs.Option.{option_to_list}
use Rattle.std.proofs.lemmas.Bool.{true≢false}
use Rattle.std.proofs.lemmas.List.{take_all}
use Rattle.block_table.specs.declared.block.Block.{Block}
use Rattle.block_table.specs.Restoring.{AreEnds}
use Rattle.block_table.specs.Tables.{AreBlocks}
use Rattle.block_table.proofs.Restored.{block_added, block_misfits, ends_more, last_misfits, no_ends}
use Rattle.block_table.proofs.ends.ends_of.Goals as goal

pub loop-block-init : goal.loop-block-init
loop-block-init c = no_ends c.new-ends.result c.new-ends.ensures.none

pub returns-then-not-branch-clause-none : goal.returns-then-not-branch-clause-none
returns-then-not-branch-clause-none c = λ none.
    block_misfits c.args.older.now (option_to_list c.args.writing) c.loop-block.block-index _ c.loop-block.ends c.loop-block-test.true c.loop-block.invariant
    (λ is. true≢false (sym (c.in_ok-add.ensures.new.1 is) ∙ c.if-not-branch.true))

pub loop-block-preserved : goal.loop-block-preserved
loop-block-preserved c =
    block_added c.args.older.now c.loop-block.block-index _ c.loop-block.ends c.add.new.self c.loop-block-test.true c.loop-block.invariant (c.in_ok-add.ensures.new.0 c.if-not-branch.false)
    (c.in_ok-add.ensures.with c.if-not-branch.false)

pub returns-in_default-clause-some : goal.returns-in_default-clause-some
returns-in_default-clause-some c =
    let ks = c.args.older.now in
    let so_far = subst (λ (l : List Block). AreEnds l c.loop-block.ends) (take_all c.loop-block.block-index ks c.loop-block-test.false) c.loop-block.invariant in
    subst (λ (o : Option Block). AreEnds (ks ++ option_to_list o) c.loop-block.ends) (sym c.in_default.is) (subst (λ (l : List Block). AreEnds l c.loop-block.ends) (sym (append-nil ks)) so_far)

pub returns-then-not-branch-2-clause-none : goal.returns-then-not-branch-2-clause-none
returns-then-not-branch-2-clause-none c = λ none.
    let ks = c.args.older.now in
    let so_far = subst (λ (l : List Block). AreEnds l c.loop-block.ends) (take_all c.loop-block.block-index ks c.loop-block-test.false) c.loop-block.invariant in
    subst (λ (o : Option Block). ¬ AreBlocks (ks ++ option_to_list o)) (sym c.in-Some.is)
    (last_misfits ks c.in-Some.block c.loop-block.ends so_far (λ is. true≢false (sym (c.in_ok-add-2.ensures.new.1 is) ∙ c.if-not-branch-2.true)))

pub returns-clause-some : goal.returns-clause-some
returns-clause-some c =
    let ks = c.args.older.now in
    let so_far = subst (λ (l : List Block). AreEnds l c.loop-block.ends) (take_all c.loop-block.block-index ks c.loop-block-test.false) c.loop-block.invariant in
    subst (λ (o : Option Block). AreEnds (ks ++ option_to_list o) c.add-2.new.self) (sym c.in-Some.is)
    (ends_more ks c.in-Some.block c.loop-block.ends c.add-2.new.self so_far (c.in_ok-add-2.ensures.new.0 c.if-not-branch-2.false) (c.in_ok-add-2.ensures.with c.if-not-branch-2.false))

use Rattle.std.proofs.Common.{◌≡◌, ◌++◌, List, Option, true, false, refl, sym, ap, subst, ◌∙◌}
use Rattle.std.specs.Prelude.{IfSome}
use Rattle.std.specs.List.{list_all}
use Rattle.std.specs.Option.{option_to_list}
use Rattle.std.proofs.lemmas.Bool.{true≢false}
use Rattle.block_table.specs.declared.block.Block.{Block}
use Rattle.block_table.specs.declared.ends.FileEnds.{FileEnds}
use Rattle.block_table.specs.declared.placed.Placed.{Placed}
use Rattle.block_table.specs.Blocks.{is_used}
use Rattle.block_table.specs.Restoring.{AreEnds, table_of}
use Rattle.block_table.specs.Tables.{AreRising}
use Rattle.block_table.proofs.Free.{below_two}
use Rattle.block_table.proofs.Restored.{all_held, all_inside, restored}
use Rattle.block_table.proofs.table.BlockTable.restore.Goals as goal
use Rattle.block_table.proofs.table.BlockTable.restore.Goals.{then-not-have_all-via-then-not-have_all, then-not-have_all-via-else-not-have_all+then-not-are_in_each}

pub returns-then-not-have_all-clause-table : goal.returns-then-not-have_all-clause-table
returns-then-not-have_all-clause-table c =
    let placed = c.args.placed.now in
    let older = c.args.older.items in
    let writing = c.args.writing in
    let are : AreEnds (older ++ option_to_list writing) c.in-Some-2.ends =
    subst (λ (l : List Block). AreEnds (l ++ option_to_list writing) c.in-Some-2.ends) c.as_slice.ensures.value
    (subst (λ (o : Option FileEnds). IfSome o (AreEnds (c.as_slice.result.now ++ option_to_list writing))) c.in-Some-2.is c.in_ok-ends.ensures.some) in
    let same : c.in-Some.messages ≡ placed = (subst (λ (o : Option (List Placed)). IfSome o (λ ps. (ps ≡ placed) × AreRising placed)) c.in-Some.is c.in_ok-messages.ensures.some).0 in
    elim c.then-not-have_all.branch [
      | then-not-have_all-via-then-not-have_all w ↦ (
        λ e. absurd (true≢false (sym e)),
        λ t. absurd (true≢false (sym (all_inside placed older writing c.in-Some-2.ends are t) ∙ sym c.have_all.ensures.value ∙ w.if-not-have_all.true)),
      )
      | then-not-have_all-via-else-not-have_all+then-not-are_in_each w ↦ (
        λ e. absurd (true≢false (sym e)),
        λ t. absurd (true≢false (sym (all_held placed older writing t)
            ∙ sym (w.are_in_each.ensures.value ∙ ap (λ (ps : List Placed). list_all (λ k. is_used ps k.file) w.as_slice-else-not-have_all.result.now) same ∙ ap (list_all (λ k. is_used placed k.file)) w.as_slice-else-not-have_all.ensures.value)
            ∙ w.if-not-are_in_each.true)),
      )
    ]

pub invariant_of-result : goal.invariant_of-result
invariant_of-result c =
    let placed = c.args.placed.now in
    let older = c.args.older.items in
    let writing = c.args.writing in
    let are : AreEnds (older ++ option_to_list writing) c.in-Some-2.ends =
    subst (λ (l : List Block). AreEnds (l ++ option_to_list writing) c.in-Some-2.ends) c.as_slice.ensures.value
    (subst (λ (o : Option FileEnds). IfSome o (AreEnds (c.as_slice.result.now ++ option_to_list writing))) c.in-Some-2.is c.in_ok-ends.ensures.some) in
    let found = subst (λ (o : Option (List Placed)). IfSome o (λ ps. (ps ≡ placed) × AreRising placed)) c.in-Some.is c.in_ok-messages.ensures.some in
    let held : list_all (λ k. is_used placed k.file) older ≡ true =
    sym (c.are_in_each.ensures.value ∙ ap (λ (ps : List Placed). list_all (λ k. is_used ps k.file) c.as_slice-else-not-have_all.result.now) found.0 ∙ ap (list_all (λ k. is_used placed k.file)) c.as_slice-else-not-have_all.ensures.value)
    ∙ c.if-not-are_in_each.false in
    rw found.0
    (record {
      table = restored placed older writing c.in-Some-2.ends found.1 are (sym c.have_all.ensures.value ∙ c.if-not-have_all.false) held;
      below = below_two (table_of placed older writing);
    })

pub returns-clause-table : goal.returns-clause-table
returns-clause-table c =
    let placed = c.args.placed.now in
    let older = c.args.older.items in
    let writing = c.args.writing in
    let are : AreEnds (older ++ option_to_list writing) c.in-Some-2.ends =
    subst (λ (l : List Block). AreEnds (l ++ option_to_list writing) c.in-Some-2.ends) c.as_slice.ensures.value
    (subst (λ (o : Option FileEnds). IfSome o (AreEnds (c.as_slice.result.now ++ option_to_list writing))) c.in-Some-2.is c.in_ok-ends.ensures.some) in
    let found = subst (λ (o : Option (List Placed)). IfSome o (λ ps. (ps ≡ placed) × AreRising placed)) c.in-Some.is c.in_ok-messages.ensures.some in
    let held : list_all (λ k. is_used placed k.file) older ≡ true =
    sym (c.are_in_each.ensures.value ∙ ap (λ (ps : List Placed). list_all (λ k. is_used ps k.file) c.as_slice-else-not-have_all.result.now) found.0 ∙ ap (list_all (λ k. is_used placed k.file)) c.as_slice-else-not-have_all.ensures.value)
    ∙ c.if-not-are_in_each.false in
    (λ e. restored placed older writing c.in-Some-2.ends found.1 are (sym c.have_all.ensures.value ∙ c.if-not-have_all.false) held, λ t. refl)

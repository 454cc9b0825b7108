use Rattle.std.proofs.Common.{◌≡◌, ◌∷◌, Some, false, cond, ap, sym, ◌∙◌}
use Rattle.std.specs.Prelude.{find}
use Rattle.std.proofs.lemmas.List.Folds.{find-append}
use Rattle.pending_table.specs.Asked.{passes, IsWithin}
use Rattle.pending_table.specs.Trees.{entries, listed}
use Rattle.pending_table.proofs.Around.{all_map, find_none}
use Rattle.pending_table.proofs.Ranges.{seq_of, found_left, found_later}
use Rattle.pending_table.proofs.tree.Tree.+first.Goals as goal

pub returns-then-not-may_have : goal.returns-then-not-may_have
returns-then-not-may_have t c =
    let f = c.in-Fork.fork.value in
    let test = passes c.args.asked.now in
    record {
      value = rw c.in-Fork.is
          (ap seq_of (sym (find_none test (listed f) (all_map (IsWithin f.bounds) (λ p. test p ≡ false) (rw c.deref.ensures at c.if-not-may_have.ensures.none) (listed f) (rw c.in-Fork.is at c.requires.bounded).0))));
    }

pub returns-in-Some : goal.returns-in-Some
returns-in-Some t c =
    let f = c.in-Fork.fork.value in
    let test = passes c.args.asked.now in
    record {
      value = rw c.in-Fork.is
          (found_left _ (find test (f.entry ∷ entries f.right)) c.in-Some.seq (sym c.in-Some.is ∙ rw c.deref-2.ensures at c.first.ensures.value)
          ∙ ap seq_of (sym (find-append test (entries f.left) (f.entry ∷ entries f.right))));
    }

pub returns-then-passes : goal.returns-then-passes
returns-then-passes t c =
    let f = c.in-Fork.fork.value in
    let test = passes c.args.asked.now in
    record {
      value = rw (c.in-Fork.is, c.deref-then-passes.ensures)
          (ap seq_of
          (sym
          (find-append test (entries f.left) (f.entry ∷ entries f.right)
          ∙ found_later _ _ (sym c.in_default-first.is ∙ rw c.deref-2.ensures at c.first.ensures.value)
          ∙ ap (λ b. cond b (Some f.entry) (find test (entries f.right))) (sym (rw c.deref-3.ensures at c.if-passes.ensures.value)))));
    }

pub returns : goal.returns
returns t c =
    let f = c.in-Fork.fork.value in
    let test = passes c.args.asked.now in
    record {
      value = rw c.in-Fork.is
          (rw c.deref-4.ensures at c.first-2.ensures.value
          ∙ ap seq_of
          (sym
          (find-append test (entries f.left) (f.entry ∷ entries f.right)
          ∙ found_later _ _ (sym c.in_default-first.is ∙ rw c.deref-2.ensures at c.first.ensures.value)
          ∙ ap (λ b. cond b (Some f.entry) (find test (entries f.right))) (sym (rw c.deref-3.ensures at c.if-passes.ensures.value)))));
    }

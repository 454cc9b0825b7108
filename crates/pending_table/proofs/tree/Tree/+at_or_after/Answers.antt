use Rattle.std.proofs.Common.{Some, ap, sym, ◌∙◌}
use Rattle.pending_table.specs.Trees.{entries}
use Rattle.pending_table.proofs.Ranges.{seq_of, from_left, from_right, found_left, found_later}
use Rattle.pending_table.proofs.tree.Tree.+at_or_after.Goals as goal

pub returns-then-deref-seq : goal.returns-then-deref-seq
returns-then-deref-seq t c =
    let sides = (rw c.in-Fork.is at c.requires.ordered).0 in
    record {
      value = rw c.in-Fork.is
          (rw c.deref-then-deref-seq.ensures at c.at_or_after.ensures.value
          ∙ ap seq_of (sym (from_right _ c.in-Fork.fork.value.entry _ c.args.seq sides (rw c.deref.ensures at c.if-deref-seq.true))));
    }

pub returns-in-Some : goal.returns-in-Some
returns-in-Some t c =
    let f = c.in-Fork.fork.value in
    record {
      value = rw c.in-Fork.is
          (found_left _ (Some f.entry) c.in-Some.least (sym c.in-Some.is ∙ rw c.deref-2.ensures at c.at_or_after-2.ensures.value)
          ∙ ap seq_of (sym (from_left (entries f.left) f.entry (entries f.right) c.args.seq (rw c.deref.ensures at c.if-deref-seq.false))));
    }

pub returns-in-None : goal.returns-in-None
returns-in-None t c =
    let f = c.in-Fork.fork.value in
    record {
      value = rw (c.in-Fork.is, c.deref-in-None.ensures)
          (ap seq_of (sym (found_later _ (Some f.entry) (sym c.in-None.is ∙ rw c.deref-2.ensures at c.at_or_after-2.ensures.value)))
          ∙ ap seq_of (sym (from_left (entries f.left) f.entry (entries f.right) c.args.seq (rw c.deref.ensures at c.if-deref-seq.false))));
    }

use Rattle.std.proofs.Common.{sym, ◌∙◌, arith, ◌≡◌}
use Rattle.pending_table.proofs.Around.{get_left, get_right, get_here}
use Rattle.pending_table.proofs.tree.Tree.+get.Goals as goal

pub returns-then-seq-deref : goal.returns-then-seq-deref
returns-then-seq-deref t c =
    let sides = (rw c.in-Fork.is at c.requires.ordered).0 in
    record {
      value = rw c.in-Fork.is
          (rw c.deref-then-seq-deref.ensures at c.get.ensures.value ∙ sym (get_left _ c.in-Fork.fork.value.entry _ sides c.args.seq (rw c.deref.ensures at c.if-seq-deref.true)));
    }

pub returns-then-deref-seq : goal.returns-then-deref-seq
returns-then-deref-seq t c =
    let sides = (rw c.in-Fork.is at c.requires.ordered).0 in
    record {
      value = rw c.in-Fork.is
          (rw c.deref-then-deref-seq.ensures at c.get-then-deref-seq.ensures.value
          ∙ sym (get_right _ c.in-Fork.fork.value.entry _ sides c.args.seq (rw c.deref-else-seq-deref.ensures at c.if-deref-seq.true)));
    }

pub returns-else-deref-seq : goal.returns-else-deref-seq
returns-else-deref-seq t c =
    let sides = (rw c.in-Fork.is at c.requires.ordered).0 in
    let not_less = rw c.deref.ensures at c.if-seq-deref.false in
    let not_more = rw c.deref-else-seq-deref.ensures at c.if-deref-seq.false in
    let same : c.in-Fork.fork.value.entry.seq ≡ c.args.seq = omega (arith, not_less, not_more) in
    record { value = rw c.in-Fork.is (rw c.deref-else-deref-seq.ensures (sym (get_here _ c.in-Fork.fork.value.entry _ sides c.args.seq same))) }

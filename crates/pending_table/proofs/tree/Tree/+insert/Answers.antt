use Rattle.std.proofs.Common.{◌∷◌, ◌++◌, ◌<◌, ap, sym, ◌∙◌, arith}
use Rattle.std.proofs.lemmas.Bool.{eqb-false}
use Rattle.pending_table.specs.Trees.{entries}
use Rattle.pending_table.proofs.Around.{put_left, put_right}
use Rattle.pending_table.proofs.tree.Tree.+insert.Goals as goal
use Rattle.pending_table.proofs.tree.Tree.+insert.Goals.{then-deref, else-deref}

pub returns-after-deref-clause-entries : goal.returns-after-deref-clause-entries
returns-after-deref-clause-entries t c =
    let f = c.in-Fork.fork.value in
    let new = c.args.leaf.value.entry in
    let sides = (rw c.in-Fork.is at c.requires.ordered).0 in
    elim c.if-deref.branch [
      | then-deref w ↦ rw (c.balance.ensures.entries, w.self-is, w.deref_mut.ensures.value, c.in-Fork.is)
          (ap (λ ps. ps ++ f.entry ∷ entries f.right) (rw w.deref_mut.ensures.value at w.insert.ensures.entries)
          ∙ sym (put_left (entries f.left) f.entry new (entries f.right) (rw (c.deref.ensures, c.deref-in-Fork.ensures) at w.if-deref.true)))
      | else-deref w ↦
          let not_less = rw (c.deref.ensures, c.deref-in-Fork.ensures) at w.if-deref.false in
          let other = eqb-false f.entry.seq new.seq (rw c.in-Fork.is at c.requires.absent).0 in
          let more : f.entry.seq < new.seq = omega (arith, not_less, other) in
          rw (c.balance.ensures.entries, w.self-is, w.deref_mut-else-deref.ensures.value, c.in-Fork.is)
          (ap (λ ps. entries f.left ++ f.entry ∷ ps) (rw w.deref_mut-else-deref.ensures.value at w.insert-else-deref.ensures.entries)
          ∙ sym (put_right (entries f.left) f.entry new (entries f.right) sides.below more))
    ]

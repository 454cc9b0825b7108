use Rattle.std.proofs.Common.{◌≡◌, ◌∷◌, ◌++◌, ap, sym, ◌∙◌, arith}
use Rattle.pending_table.specs.Trees.{entries}
use Rattle.pending_table.proofs.Around.{replaced_left, replaced_right, replaced_here}
use Rattle.pending_table.proofs.tree.Tree.+replace.Goals as goal
use Rattle.pending_table.proofs.tree.Tree.+replace.Goals.{then-entry-deref, else-entry-deref+then-deref-entry, else-entry-deref+else-deref-entry}

pub returns-clause-entries : goal.returns-clause-entries
returns-clause-entries t c =
    let f = c.in-Fork.fork.value in
    let sides = (rw c.in-Fork.is at c.requires.ordered).0 in
    elim c.if-entry-deref.branch [
      | then-entry-deref w ↦ rw (c.update.ensures.left, c.update.ensures.entry, c.update.ensures.right, c.deref_mut-2.ensures.value, w.fork-is, w.deref_mut.ensures.value, c.in-Fork.is)
          (ap (λ ps. ps ++ f.entry ∷ entries f.right) (rw w.deref_mut.ensures.value at w.replace.ensures.entries)
          ∙ sym (replaced_left _ f.entry _ sides c.args.entry (rw c.deref.ensures at w.if-entry-deref.true)))
      | else-entry-deref+then-deref-entry w ↦ rw (c.update.ensures.left, c.update.ensures.entry, c.update.ensures.right, c.deref_mut-2.ensures.value, w.fork-is, w.deref_mut-then-deref-entry.ensures.value, c.in-Fork.is)
          (ap (λ ps. entries f.left ++ f.entry ∷ ps) (rw w.deref_mut-then-deref-entry.ensures.value at w.replace-then-deref-entry.ensures.entries)
          ∙ sym (replaced_right _ f.entry _ sides c.args.entry (rw w.deref-else-entry-deref.ensures at w.if-deref-entry.true)))
      | else-entry-deref+else-deref-entry w ↦
          let not_less = rw c.deref.ensures at w.if-entry-deref.false in
          let not_more = rw w.deref-else-entry-deref.ensures at w.if-deref-entry.false in
          let same : f.entry.seq ≡ c.args.entry.seq = omega (arith, not_less, not_more) in
          rw (c.update.ensures.left, c.update.ensures.entry, c.update.ensures.right, c.deref_mut-2.ensures.value, w.fork-is, w.deref_mut-else-deref-entry.ensures.value, c.in-Fork.is)
          (sym (replaced_here _ f.entry _ sides c.args.entry same))
    ]

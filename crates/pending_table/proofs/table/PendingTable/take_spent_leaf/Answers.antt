use Rattle.std.proofs.Common.{refl, sym, ap, ◌∙◌}
use Rattle.pending_table.specs.Asked.{is_spent}
use Rattle.pending_table.specs.Trees.{entries, entry_of}
use Rattle.pending_table.proofs.Changed.{none_first, not_found, taken_first}
use Rattle.pending_table.proofs.Moved.{found_by_seq}
use Rattle.pending_table.proofs.table.PendingTable.take_spent_leaf.Goals as goal

pub returns-in_err-seq-clause-taken : goal.returns-in_err-seq-clause-taken
returns-in_err-seq-clause-taken c =
    let test = is_spent c.args.now c.args.max in
    let ps = entries c.self.inside.tree in
    rw (← c.self.view_is) (ap entry_of c.from_residual.ensures ∙ sym (not_found test ps _ refl (sym c.in_err-seq.was ∙ c.first.ensures.value)))

pub returns-in_err-seq-clause-left : goal.returns-in_err-seq-clause-left
returns-in_err-seq-clause-left c =
    let test = is_spent c.args.now c.args.max in
    let ps = entries c.self.inside.tree in
    rw (← c.self.view_is) (sym (none_first test ps (not_found test ps _ refl (sym c.in_err-seq.was ∙ c.first.ensures.value))))

pub returns-clause-taken : goal.returns-clause-taken
returns-clause-taken c =
    let test = is_spent c.args.now c.args.max in
    let ps = entries c.self.inside.tree in
    c.take.ensures.taken ∙ rw (← c.self.view_is) (found_by_seq test ps c.self.invariant.ascending c.in_ok-seq.seq _ refl (sym c.in_ok-seq.was ∙ c.first.ensures.value))

pub returns-clause-left : goal.returns-clause-left
returns-clause-left c =
    let test = is_spent c.args.now c.args.max in
    let ps = entries c.self.inside.tree in
    c.take.ensures.left ∙ rw (← c.self.view_is) (taken_first test ps c.self.invariant.ascending c.in_ok-seq.seq _ refl (sym c.in_ok-seq.was ∙ c.first.ensures.value))

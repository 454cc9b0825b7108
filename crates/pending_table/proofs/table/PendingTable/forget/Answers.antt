use Rattle.std.proofs.Common.{refl, sym, ◌∙◌}
use Rattle.pending_table.proofs.Changed.{is_in, not_found, range_done, range_step}
use Rattle.pending_table.proofs.table.PendingTable.forget.Goals as goal

pub loop-seq-smaller : goal.loop-seq-smaller
loop-seq-smaller c =
    let step = range_step c.args.low c.args.high c.loop-seq.self c.in-Some.seq _ refl (sym c.in-Some.is ∙ c.first_in.ensures.value) in
    rw c.ack.ensures.left step.1

pub loop-seq-preserved : goal.loop-seq-preserved
loop-seq-preserved c =
    let step = range_step c.args.low c.args.high c.loop-seq.self c.in-Some.seq _ refl (sym c.in-Some.is ∙ c.first_in.ensures.value) in
    rw c.ack.ensures.left (step.0 ∙ c.loop-seq.invariant)

pub returns : goal.returns
returns c =
    let none = not_found (is_in c.args.low c.args.high) c.loop-seq.self _ refl (sym c.in_default.is ∙ c.first_in.ensures.value) in
    record { left = sym (range_done c.args.low c.args.high c.loop-seq.self none) ∙ c.loop-seq.invariant }

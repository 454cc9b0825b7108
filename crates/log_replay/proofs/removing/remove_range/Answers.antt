use Rattle.std.proofs.Common.{refl, sym, ◌∙◌, not, ◌==◌}
use Rattle.js_model.proofs.Parts.{filter_part, part_between}
use Rattle.log_replay.proofs.Ranges.{range_step, range_end}
use Rattle.log_replay.proofs.removing.remove_range.Goals as goal

pub loop-seq-init : goal.loop-seq-init
loop-seq-init c = record { left = refl; ascend = c.requires.ascend }

pub loop-seq-smaller : goal.loop-seq-smaller
loop-seq-smaller c = rw c.remove_one.ensures.left (range_step c.args.low c.args.high c.in-Some.seq c.loop-seq.messages _ refl (sym c.in-Some.is ∙ c.first_within.ensures.value)).1

pub loop-seq-preserved : goal.loop-seq-preserved
loop-seq-preserved c =
    let ms = c.loop-seq.messages in
    let step = range_step c.args.low c.args.high c.in-Some.seq ms _ refl (sym c.in-Some.is ∙ c.first_within.ensures.value) in
    let before = c.loop-seq.invariant in
    rw c.remove_one.ensures.left
    (record { left = step.0 ∙ before.left; ascend = (before.ascend.0, part_between (λ m. m.seq) 1 before.ascend.0 (filter_part (λ m. not (m.seq == c.in-Some.seq)) ms) before.ascend.1) })

pub returns : goal.returns
returns c = record { left = sym (range_end c.args.low c.args.high c.loop-seq.messages _ refl (sym c.in_default.is ∙ c.first_within.ensures.value)) ∙ c.loop-seq.invariant.left }

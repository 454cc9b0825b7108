use Rattle.std.proofs.Common.{get_or, arith}
use Rattle.std.proofs.lemmas.List.{get_or_default}
use Rattle.std.proofs.lemmas.List.Edits.{map_over_more}
use Rattle.js_model.specs.declared.consumer.Pending.{Pending}
use Rattle.js_model.specs.Acknowledge.{moved}
use Rattle.record_fold.proofs.entries.set_due.Goals as goal

pub loop-entry-preserved : goal.loop-entry-preserved
loop-entry-preserved c =
    let i = c.loop-entry.entry-index in
    let here : Pending = get_or c.loop-entry.entries i c.entry-item.result in
    rw c.move_entry.ensures.value (map_over_more (moved c.args.seq c.args.due) c.args.entries.now c.loop-entry.entries i here (omega arith) c.loop-entry.invariant (get_or_default c.loop-entry.entries i c.entry-item.result here (omega arith)))

use Rattle.std.proofs.Common.{get_or, arith}
use Rattle.std.proofs.lemmas.List.{get_or_default}
use Rattle.std.proofs.lemmas.List.Edits.{map_over_more}
use Rattle.js_model.specs.declared.consumer.Pull.{Pull}
use Rattle.js_model.specs.Advance.{beaten}
use Rattle.pull_queue.proofs.moments.beat_all.Goals as goal

pub loop-pull-preserved : goal.loop-pull-preserved
loop-pull-preserved c =
    let i = c.loop-pull.pull-index in
    let here : Pull = get_or c.loop-pull.pulls i c.pull-item.result in
    rw c.beat.ensures.value (map_over_more (beaten c.args.now) c.args.pulls.now c.loop-pull.pulls i here (omega arith) c.loop-pull.invariant (get_or_default c.loop-pull.pulls i c.pull-item.result here (omega arith)))

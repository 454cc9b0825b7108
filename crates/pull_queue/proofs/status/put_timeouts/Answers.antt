use Rattle.std.proofs.Common.{◌∙◌, sym, arith}
use Rattle.js_model.specs.Advance.{timeout, is_over}
use Rattle.pull_queue.proofs.Loops.{made_more, made_same}
use Rattle.pull_queue.proofs.status.put_timeouts.Goals as goal
use Rattle.pull_queue.proofs.status.put_timeouts.Goals.{then-is_over+in_ok-timeout+in_ok-push, else-is_over}

pub loop-pull-preserved : goal.loop-pull-preserved
loop-pull-preserved c =
    let over = is_over c.args.now in
    let i = c.loop-pull.pull-index in
    let pull = c.pull-item.result in
    let outs = c.loop-pull.outs.items in
    elim c.if-is_over.branch [
      | then-is_over+in_ok-timeout+in_ok-push w ↦
          rw (w.outs-is, w.in_ok-push.ensures.items, w.in_ok-timeout.ensures.value)
          (made_more over timeout c.args.outs.now.items outs c.args.pulls.now i pull (omega arith) c.loop-pull.invariant c.pull-item.is (sym c.is_over.ensures.value ∙ w.if-is_over.true))
      | else-is_over w ↦
          rw w.outs-is (made_same over timeout c.args.outs.now.items outs c.args.pulls.now i pull (omega arith) c.loop-pull.invariant c.pull-item.is (sym c.is_over.ensures.value ∙ w.if-is_over.false))
    ]

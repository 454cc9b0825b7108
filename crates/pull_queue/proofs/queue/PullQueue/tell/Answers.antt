use Rattle.std.proofs.Common.{sym, ◌∙◌}
use Rattle.pull_queue.proofs.Passes.{quiet_outs}
use Rattle.pull_queue.proofs.queue.PullQueue.tell.Goals as goal

pub returns-then-not-is_reached-clause-ok : goal.returns-then-not-is_reached-clause-ok
returns-then-not-is_reached-clause-ok c =
    let i = c.self.inside in
    let quiet = c.self.invariant.quiet.none_due c.args.now (sym c.is_reached.ensures.value ∙ c.if-not-is_reached.true) in
    rw (← c.self.view_is) (quiet_outs c.args.now c.args.outs.now i.pulls.items quiet)

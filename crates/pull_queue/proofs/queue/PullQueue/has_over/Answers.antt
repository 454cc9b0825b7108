use Rattle.std.proofs.Common.{sym, ◌∙◌}
use Rattle.pull_queue.proofs.Passes.{quiet_over}
use Rattle.pull_queue.proofs.queue.PullQueue.has_over.Goals as goal

pub returns-then-not-is_reached : goal.returns-then-not-is_reached
returns-then-not-is_reached c =
    let i = c.self.inside in
    let quiet = c.self.invariant.quiet.none_due c.args.now (sym c.is_reached.ensures.value ∙ c.if-not-is_reached.true) in
    record { value = rw (← c.self.view_is) (sym (quiet_over c.args.now i.pulls.items quiet)) }

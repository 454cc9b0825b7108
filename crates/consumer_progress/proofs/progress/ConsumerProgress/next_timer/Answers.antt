use Rattle.consumer_progress.proofs.Timing.{due_bound}
use Rattle.consumer_progress.proofs.progress.ConsumerProgress.next_timer.Goals as goal

pub returns-clause-bound : goal.returns-clause-bound
returns-clause-bound c = rw (← c.self.view_is) (due_bound c.args.now c.next_after.result c.self.inside.pending c.next_after.ensures.quiet)

use Rattle.consumer_progress.proofs.Kept.{due_progress}
use Rattle.consumer_progress.proofs.progress.ConsumerProgress.set_due.Goals as goal

pub invariant_of-self : goal.invariant_of-self
invariant_of-self c = rw c.set_due.ensures.value (due_progress c.args.seq c.args.due _ c.self.invariant)

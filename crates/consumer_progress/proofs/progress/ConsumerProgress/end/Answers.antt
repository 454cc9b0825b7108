use Rattle.std.proofs.Common.{◌==◌}
use Rattle.consumer_progress.proofs.Kept.{ended_progress}
use Rattle.consumer_progress.proofs.progress.ConsumerProgress.end.Goals as goal

pub invariant_of-self : goal.invariant_of-self
invariant_of-self c = rw (c.drop_seq-waited.ensures.left, c.drop_seq-given_up.ensures.seqs) (ended_progress (λ n. n == c.args.seq) _ c.self.invariant)

use Rattle.consumer_progress.proofs.Kept.{without_progress}
use Rattle.consumer_progress.proofs.progress.ConsumerProgress.forget.Goals as goal

pub invariant_of-self : goal.invariant_of-self
invariant_of-self c = rw (c.drop_seq.ensures.seqs, c.drop_seq-2.ensures.left, c.drop_seq-3.ensures.seqs) (without_progress c.args.gone _ c.self.invariant)

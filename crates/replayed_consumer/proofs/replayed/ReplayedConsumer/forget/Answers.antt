use Rattle.replayed_consumer.proofs.Keeping.{holding_keeps}
use Rattle.replayed_consumer.proofs.Progressing.{holding_replayable}
use Rattle.replayed_consumer.proofs.replayed.ReplayedConsumer.forget.Goals as goal

pub invariant_of-self : goal.invariant_of-self
invariant_of-self c = rw (c.drop_range.ensures.seqs, c.drop_range-2.ensures.left, c.drop_range-3.ensures.seqs) (holding_replayable c.args.low c.args.high _ c.self.invariant)

pub returns-clause-keeps : goal.returns-clause-keeps
returns-clause-keeps c = rw (c.drop_range.ensures.seqs, c.drop_range-2.ensures.left, c.drop_range-3.ensures.seqs, ← c.self.view_is) (holding_keeps c.args.low c.args.high _)

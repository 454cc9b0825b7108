use Rattle.effects.specs.Ranges.{is_within}
use Rattle.replayed_consumer.proofs.Keeping.{ended_keeps}
use Rattle.replayed_consumer.proofs.Progressing.{ended_replayable}
use Rattle.replayed_consumer.proofs.replayed.ReplayedConsumer.end.Goals as goal

pub invariant_of-self : goal.invariant_of-self
invariant_of-self c = rw (c.drop_range.ensures.left, c.drop_range-2.ensures.seqs) (ended_replayable c.args.low c.args.high _ c.self.invariant)

pub returns-clause-keeps : goal.returns-clause-keeps
returns-clause-keeps c = rw (c.drop_range.ensures.left, c.drop_range-2.ensures.seqs, ← c.self.view_is) (ended_keeps (is_within c.args.low c.args.high) _)

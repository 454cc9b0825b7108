use Rattle.replayed_consumer.proofs.Delivered.{delivered_keeps, delivered_replayable}
use Rattle.replayed_consumer.proofs.replayed.ReplayedConsumer.deliver.Goals as goal

pub invariant_of-self-2 : goal.invariant_of-self-2
invariant_of-self-2 c =
    let can = rw (← c.self.view_is) at c.requires.can in
    rw (c.in_ok-put_waiting.ensures.ok, c.drop_seq.ensures.seqs, c.max-self-inside.ensures, c.is_unacknowledged-is_unacknowledged.ensures.value, ← c.self.view_is)
    (delivered_replayable _ c.args.entry c.args.dseq can c.self.invariant)

pub returns-clause-keeps : goal.returns-clause-keeps
returns-clause-keeps c =
    let can = rw (← c.self.view_is) at c.requires.can in
    rw (c.in_ok-put_waiting.ensures.ok, c.drop_seq.ensures.seqs, c.max-self-inside.ensures, c.is_unacknowledged-is_unacknowledged.ensures.value, ← c.self.view_is) (delivered_keeps _ c.args.entry c.args.dseq can)

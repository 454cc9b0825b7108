use Rattle.consumer_progress.proofs.Filling.{ascends_from, ascends_same}
use Rattle.replayed_consumer.proofs.Replaying.{replayable_is, shown_replayable}
use Rattle.replayed_consumer.proofs.replayed.ReplayedConsumer.of.Goals as goal

pub table_of-requires-clause-ascend : goal.table_of-requires-clause-ascend
table_of-requires-clause-ascend c = rw c.as_slice.ensures (ascends_same 0 c.args.consumer.cursor c.args.consumer.picks c.requires.replayable.progress.picks)

pub table_with-requires-clause-ascend : goal.table_with-requires-clause-ascend
table_with-requires-clause-ascend c = rw c.as_slice-2.ensures (ascends_from (λ e. e.seq) 0 c.args.consumer.cursor c.args.consumer.pending c.requires.replayable.progress.pending)

pub table_of-requires-2-clause-ascend : goal.table_of-requires-2-clause-ascend
table_of-requires-2-clause-ascend c = rw c.as_slice-3.ensures (ascends_same 0 c.args.consumer.cursor c.args.consumer.given_up c.requires.replayable.progress.given_up)

pub invariant_of-result : goal.invariant_of-result
invariant_of-result c = rw (c.in_ok-picks.ensures.value, c.in_ok-pending.ensures.value, c.in_ok-given_up.ensures.value, c.as_slice.ensures, c.as_slice-2.ensures, c.as_slice-3.ensures) (shown_replayable c.args.consumer c.requires.replayable)

pub returns : goal.returns
returns c = record { value = rw (c.in_ok-picks.ensures.value, c.in_ok-pending.ensures.value, c.in_ok-given_up.ensures.value, c.as_slice.ensures, c.as_slice-2.ensures, c.as_slice-3.ensures) (replayable_is c.args.consumer c.requires.replayable) }

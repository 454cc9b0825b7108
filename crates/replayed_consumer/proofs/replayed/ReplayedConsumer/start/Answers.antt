use Rattle.consumer_progress.proofs.Filling.{ascends_same}
use Rattle.replayed_consumer.proofs.Keeping.{start_keeps}
use Rattle.replayed_consumer.proofs.Replaying.{start_replayable}
use Rattle.replayed_consumer.proofs.replayed.ReplayedConsumer.start.Goals as goal

pub table_of-requires-clause-ascend : goal.table_of-requires-clause-ascend
table_of-requires-clause-ascend c = ascends_same 0 c.args.cursor c.args.picks.now c.requires.ascend

pub invariant_of-result : goal.invariant_of-result
invariant_of-result c = rw (c.in_ok-picks.ensures.value, c.new.ensures.empty, c.new-2.ensures.empty) (start_replayable c.args.name c.args.made c.args.config c.args.cursor c.args.picks.now c.requires.ascend c.requires.few)

pub returns-clause-keeps : goal.returns-clause-keeps
returns-clause-keeps c = rw (c.in_ok-picks.ensures.value, c.new.ensures.empty, c.new-2.ensures.empty) (start_keeps c.args.name c.args.made c.args.config c.args.cursor c.args.picks.now)

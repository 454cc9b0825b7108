use Rattle.consumer_progress.proofs.Filling.{ascends_same}
use Rattle.consumer_progress.proofs.Kept.{start_progress}
use Rattle.consumer_progress.proofs.progress.ConsumerProgress.start.Goals as goal

pub table_of-requires-clause-ascend : goal.table_of-requires-clause-ascend
table_of-requires-clause-ascend c = ascends_same 0 c.args.cursor c.args.picks.now c.requires.ascend

pub invariant_of-result : goal.invariant_of-result
invariant_of-result c = rw (c.in_ok-picks.ensures.value, c.new.ensures.empty, c.new-2.ensures.empty) (start_progress c.args.cursor c.args.picks.now c.requires.ascend c.requires.few)

use Rattle.consumer_progress.proofs.Filling.{ascends_from, ascends_same}
use Rattle.consumer_progress.proofs.progress.ConsumerProgress.restore.Goals as goal

pub table_of-requires-clause-ascend : goal.table_of-requires-clause-ascend
table_of-requires-clause-ascend c = rw c.as_slice.ensures (ascends_same 0 c.args.kept.now.cursor c.args.kept.now.picks c.requires.kept.picks)

pub table_with-requires-clause-ascend : goal.table_with-requires-clause-ascend
table_with-requires-clause-ascend c = rw c.as_slice-2.ensures (ascends_from (λ e. e.seq) 0 c.args.kept.now.cursor c.args.kept.now.pending c.requires.kept.pending)

pub table_of-requires-2-clause-ascend : goal.table_of-requires-2-clause-ascend
table_of-requires-2-clause-ascend c = rw c.as_slice-3.ensures (ascends_same 0 c.args.kept.now.cursor c.args.kept.now.given_up c.requires.kept.given_up)

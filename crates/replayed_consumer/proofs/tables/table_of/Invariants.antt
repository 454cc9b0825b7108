use Rattle.std.proofs.Common.{◌≡◌, [], take}
use Rattle.std.specs.Prelude.{fold}
use Rattle.js_model.specs.Deliver.{with_pending}
use Rattle.consumer_progress.proofs.Filling.{plain}
use Rattle.replayed_consumer.proofs.tables.table_of.Given as goal

abbrev pub invariant-loop-seq : goal.invariant-loop-seq
invariant-loop-seq l = l.table ≡ fold (λ ps n. with_pending ps (plain l.due n)) [] (take l.seq-index l.seqs)

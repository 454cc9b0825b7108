use Rattle.std.proofs.Common.{length, ap, arith}
use Rattle.consumer_progress.proofs.Filling.{plain, filled_seqs, filled_length}
use Rattle.replayed_consumer.proofs.tables.table_of.Goals as goal

pub put-requires : goal.put-requires
put-requires c = record { room = omega (arith, ap length c.loop-seq.invariant, filled_length (plain c.unwrap-due.result) c.args.seqs.now c.loop-seq.seq-index (omega arith), c.requires.few) }

pub returns : goal.returns
returns c = record { value = filled_seqs c.unwrap-due.result c.args.seqs.now c.loop-seq.seq-index c.loop-seq.table (omega arith) c.requires.ascend c.loop-seq.invariant }

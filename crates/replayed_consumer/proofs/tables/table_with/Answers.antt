use Rattle.std.proofs.Common.{length, ap, arith}
use Rattle.consumer_progress.proofs.Filling.{own, filled_entries, filled_length}
use Rattle.replayed_consumer.proofs.tables.table_with.Goals as goal

pub put-requires : goal.put-requires
put-requires c = record { room = omega (arith, ap length c.loop-entry.invariant, filled_length own c.args.entries.now c.loop-entry.entry-index (omega arith), c.requires.few) }

pub returns : goal.returns
returns c = record { value = filled_entries c.args.entries.now c.loop-entry.entry-index c.loop-entry.table (omega arith) c.requires.ascend c.loop-entry.invariant }

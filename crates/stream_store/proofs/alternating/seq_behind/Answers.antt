use Rattle.std.proofs.Common.{find}
use Rattle.std.specs.Prelude.{nat_le}
use Rattle.stream_store.proofs.Spots.{behind_found}
use Rattle.stream_store.proofs.alternating.seq_behind.Goals as goal

pub returns-then-placed-seq : goal.returns-then-placed-seq
returns-then-placed-seq c = record {
  value = behind_found c.checked_add.result c.args.seq (find (λ p. nat_le c.args.from p.seq) c.args.table.now.placed) c.in_ok-placed.placed c.checked_add.ensures c.in_ok-placed.ensures c.if-placed-seq.true;
}

use Rattle.std.proofs.Common.{arith}
use Rattle.snapshot_bound.proofs.Sums.{ids_sum}
use Rattle.snapshot_bound.proofs.counts.ids_length.Goals as goal

pub returns-clause-value : goal.returns-clause-value
returns-clause-value c = λ ids count bytes. omega (arith, count, bytes, ids_sum ids)

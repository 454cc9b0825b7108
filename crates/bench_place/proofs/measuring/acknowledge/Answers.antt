use Rattle.std.proofs.Common.{arith}
use Rattle.bench_place.proofs.Small.{number}
use Rattle.bench_place.proofs.measuring.acknowledge.Goals as goal

pub ack-requires-clause-seq : goal.ack-requires-clause-seq
ack-requires-clause-seq c = number _ (omega arith)

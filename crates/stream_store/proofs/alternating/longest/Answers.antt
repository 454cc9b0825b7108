use Rattle.std.proofs.Common.{arith}
use Rattle.stream_store.proofs.alternating.longest.Goals as goal

pub returns : goal.returns
returns c = record { value = omega (arith, c.max.ensures, c.saturating_add.ensures, c.min.ensures) }

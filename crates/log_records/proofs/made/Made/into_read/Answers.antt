use Rattle.std.proofs.Common.{refl}
use Rattle.log_records.proofs.made.Made.into_read.Goals as goal

pub returns-clause-value : goal.returns-clause-value
returns-clause-value c = rw c.in_ok-durable.ensures.value refl

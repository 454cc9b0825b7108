use Rattle.std.proofs.Common.{refl}
use Rattle.log_records.proofs.held.Held.into_durable.Goals as goal

pub returns-in-Replayed : goal.returns-in-Replayed
returns-in-Replayed c = record { value = rw c.in-Replayed.is c.into_durable.ensures.value }

pub returns-in-Folded : goal.returns-in-Folded
returns-in-Folded c = record { value = rw c.in-Folded.is refl }

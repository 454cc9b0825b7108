use Rattle.restore_laws.proofs.Holding.{restored, restored_consumers}
use Rattle.restore_laws.proofs.laws.law_restored.Goals as goal

pub returns : goal.returns
returns c = record { law = restored; consumers = restored_consumers }

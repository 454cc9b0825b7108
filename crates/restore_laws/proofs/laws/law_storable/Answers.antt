use Rattle.restore_laws.proofs.Holding.{storable, openable}
use Rattle.restore_laws.proofs.laws.law_storable.Goals as goal

pub returns : goal.returns
returns c = record { storable = storable; openable = openable }

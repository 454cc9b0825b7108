use Rattle.model_laws.proofs.Changed.{changes_test}
use Rattle.model_laws.proofs.laws.law_changes.Goals as goal

pub returns : goal.returns
returns c = record { law = changes_test }

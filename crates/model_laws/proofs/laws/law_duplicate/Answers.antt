use Rattle.model_laws.proofs.Duplicates.{law_duplicate}
use Rattle.model_laws.proofs.laws.law_duplicate.Goals as goal

pub returns : goal.returns
returns c = record { law = law_duplicate }

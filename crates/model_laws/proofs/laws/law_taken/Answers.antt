use Rattle.model_laws.proofs.Taken.{law_taken}
use Rattle.model_laws.proofs.laws.law_taken.Goals as goal

pub returns : goal.returns
returns c = record { law = law_taken }

use Rattle.model_laws.proofs.Readiness.{law_ready}
use Rattle.model_laws.proofs.laws.law_ready.Goals as goal

pub returns : goal.returns
returns c = record { law = law_ready }

use Rattle.model_laws.proofs.Limiting.{law_limits}
use Rattle.model_laws.proofs.laws.law_limits.Goals as goal

pub returns : goal.returns
returns c = record { law = law_limits }

use Rattle.model_laws.proofs.Kept.{law_kept}
use Rattle.model_laws.proofs.laws.law_kept.Goals as goal

pub returns : goal.returns
returns c = record { law = law_kept }

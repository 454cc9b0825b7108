use Rattle.model_laws.proofs.Redelivery.{law_redelivery}
use Rattle.model_laws.proofs.laws.law_redelivery.Goals as goal

pub returns : goal.returns
returns c = record { law = law_redelivery }

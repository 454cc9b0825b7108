use Rattle.model_laws.proofs.Ordering.{law_order, law_start}
use Rattle.model_laws.proofs.MadeWithin.{law_made}
use Rattle.model_laws.proofs.laws.law_order.Goals as goal

pub returns : goal.returns
returns c = record { law = law_order; start = law_start; made = law_made }

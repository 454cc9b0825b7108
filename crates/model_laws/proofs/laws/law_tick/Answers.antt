use Rattle.model_laws.proofs.Ticks.{law_tick}
use Rattle.model_laws.proofs.laws.law_tick.Goals as goal

pub returns : goal.returns
returns c = record { law = law_tick }

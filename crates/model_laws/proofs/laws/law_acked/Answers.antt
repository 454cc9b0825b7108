use Rattle.model_laws.proofs.Acked.{law_acked}
use Rattle.model_laws.proofs.Entries.{law_ends, law_stays}
use Rattle.model_laws.proofs.ConsumerFacts.{acknowledged_entries}
use Rattle.model_laws.proofs.laws.law_acked.Goals as goal

pub returns : goal.returns
returns c = record { law = law_acked; ends = law_ends; stays = law_stays; entries = acknowledged_entries }

use Rattle.retention.proofs.Following.{law_without}
use Rattle.retention.proofs.laws.law_without.Goals as goal

pub returns : goal.returns
returns c = record { law = law_without }

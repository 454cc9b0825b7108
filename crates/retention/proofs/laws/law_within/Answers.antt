use Rattle.retention.proofs.Following.{law_within}
use Rattle.retention.proofs.laws.law_within.Goals as goal

pub returns : goal.returns
returns c = record { law = law_within }

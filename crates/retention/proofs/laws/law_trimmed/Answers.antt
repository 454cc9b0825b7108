use Rattle.retention.proofs.Following.{law_trimmed}
use Rattle.retention.proofs.laws.law_trimmed.Goals as goal

pub returns : goal.returns
returns c = record { law = law_trimmed }

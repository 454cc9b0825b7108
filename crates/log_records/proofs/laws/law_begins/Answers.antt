use Rattle.log_records.proofs.Following.{law_begins}
use Rattle.log_records.proofs.laws.law_begins.Goals as goal

pub returns : goal.returns
returns c = law_begins

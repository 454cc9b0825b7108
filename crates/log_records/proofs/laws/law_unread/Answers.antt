use Rattle.log_records.proofs.Unreading.{law_unread}
use Rattle.log_records.proofs.laws.law_unread.Goals as goal

pub returns : goal.returns
returns c = law_unread

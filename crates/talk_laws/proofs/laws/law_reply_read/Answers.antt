use Rattle.talk_laws.proofs.Replied.{law_reply_read}
use Rattle.talk_laws.proofs.laws.law_reply_read.Goals as goal

pub returns : goal.returns
returns c = record { law = law_reply_read c.law_decimal.ensures c.law_spelled.ensures.subject }

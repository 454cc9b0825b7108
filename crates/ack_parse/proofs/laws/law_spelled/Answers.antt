use Rattle.ack_parse.proofs.Subjects.{law_subject}
use Rattle.ack_parse.proofs.Bodies.{law_body}
use Rattle.ack_parse.proofs.Pulls.{law_ask}
use Rattle.ack_parse.proofs.laws.law_spelled.Goals as goal

pub returns : goal.returns
returns c = record { subject = law_subject; body = law_body; ask = law_ask }

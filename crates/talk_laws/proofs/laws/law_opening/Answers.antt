use Rattle.talk_laws.proofs.TalkLaws.{law_opening}
use Rattle.talk_laws.proofs.laws.law_opening.Goals as goal

pub returns : goal.returns
returns c = record { law = law_opening }

use Rattle.talk_laws.proofs.TalkLaws.{law_talk_writable}
use Rattle.talk_laws.proofs.laws.law_talk_writable.Goals as goal

pub returns : goal.returns
returns c = record { law = law_talk_writable c.law_runs.ensures.law c.law_writable.ensures.law }

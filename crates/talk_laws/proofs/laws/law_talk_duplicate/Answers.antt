use Rattle.talk_laws.proofs.TalkLaws.{law_talk_duplicate}
use Rattle.talk_laws.proofs.laws.law_talk_duplicate.Goals as goal

pub returns : goal.returns
returns c = record { law = law_talk_duplicate c.law_runs.ensures.law c.law_sound.ensures.law c.law_duplicate.ensures.law }

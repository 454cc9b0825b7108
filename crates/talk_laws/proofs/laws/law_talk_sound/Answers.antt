use Rattle.talk_laws.proofs.TalkLaws.{law_talk_sound}
use Rattle.talk_laws.proofs.laws.law_talk_sound.Goals as goal

pub returns : goal.returns
returns c = record { law = law_talk_sound c.law_runs.ensures.law c.law_sound.ensures.law }

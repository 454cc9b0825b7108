use Rattle.talk_laws.proofs.TalkLaws.{law_talk_limits}
use Rattle.talk_laws.proofs.laws.law_talk_limits.Goals as goal

pub returns : goal.returns
returns c = record { law = law_talk_limits c.law_runs.ensures.law c.law_sound.ensures.law c.law_limits.ensures.law }

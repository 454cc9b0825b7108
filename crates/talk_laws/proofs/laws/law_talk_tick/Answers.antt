use Rattle.talk_laws.proofs.TalkLaws.{law_talk_tick}
use Rattle.talk_laws.proofs.laws.law_talk_tick.Goals as goal

pub returns : goal.returns
returns c = record { law = law_talk_tick c.law_runs.ensures.law c.law_sound.ensures.law c.law_tick.ensures.law }

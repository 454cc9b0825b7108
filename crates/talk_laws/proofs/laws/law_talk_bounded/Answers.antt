use Rattle.talk_laws.proofs.TalkLaws.{law_talk_bounded}
use Rattle.talk_laws.proofs.laws.law_talk_bounded.Goals as goal

pub returns : goal.returns
returns c = record { law = law_talk_bounded c.law_runs.ensures.law c.law_sound.ensures.law c.law_bounded.ensures.law }

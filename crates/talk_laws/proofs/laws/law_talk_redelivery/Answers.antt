use Rattle.talk_laws.proofs.TalkLaws.{law_talk_redelivery}
use Rattle.talk_laws.proofs.laws.law_talk_redelivery.Goals as goal

pub returns : goal.returns
returns c = record { law = law_talk_redelivery c.law_runs.ensures.law c.law_sound.ensures.law c.law_redelivery.ensures.law }

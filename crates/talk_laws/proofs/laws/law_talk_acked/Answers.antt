use Rattle.talk_laws.proofs.TalkLaws.{law_talk_acked, law_talk_ends, law_talk_stays}
use Rattle.talk_laws.proofs.laws.law_talk_acked.Goals as goal

pub returns : goal.returns
returns c = record {
  law = law_talk_acked c.law_runs.ensures.law c.law_sound.ensures.law c.law_acked.ensures.law;
  ends = law_talk_ends c.law_runs.ensures.law c.law_sound.ensures.law c.law_acked.ensures.ends;
  stays = law_talk_stays c.law_runs.ensures.law c.law_sound.ensures.law c.law_acked.ensures.stays;
}

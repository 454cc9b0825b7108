use Rattle.talk_laws.proofs.TalkLaws.{law_talk_order, law_talk_start, law_talk_made}
use Rattle.talk_laws.proofs.laws.law_talk_order.Goals as goal

pub returns : goal.returns
returns c = record {
  law = law_talk_order c.law_runs.ensures.law c.law_sound.ensures.law c.law_order.ensures.law;
  start = law_talk_start c.law_runs.ensures.law c.law_sound.ensures.law c.law_order.ensures.start;
  made = law_talk_made c.law_runs.ensures.law c.law_sound.ensures.law c.law_order.ensures.made;
}

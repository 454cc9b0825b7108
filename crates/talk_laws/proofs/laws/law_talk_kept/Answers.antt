use Rattle.talk_laws.proofs.TalkLaws.{law_talk_kept}
use Rattle.talk_laws.proofs.laws.law_talk_kept.Goals as goal

pub returns : goal.returns
returns c = record { law = law_talk_kept c.law_runs.ensures.law c.law_kept.ensures.law }

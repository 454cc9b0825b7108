use Rattle.talk_laws.proofs.Confirmed.{law_talk_confirmed}
use Rattle.talk_laws.proofs.laws.law_talk_confirmed.Goals as goal

pub returns : goal.returns
returns c = record { law = law_talk_confirmed c.law_runs.ensures.law }

use Rattle.run_laws.proofs.Acked.{law_run_acked, law_run_confirmed}
use Rattle.run_laws.proofs.laws.law_run_acked.Goals as goal

pub returns : goal.returns
returns c = record {
  law = law_run_acked c.law_talk_acked.ensures.ends c.law_talk_acked.ensures.law;
  confirmed = law_run_confirmed c.law_talk_confirmed.ensures.law;
}

use Rattle.crash_laws.proofs.Timed.{law_timed}
use Rattle.crash_laws.proofs.laws.law_timed.Goals as goal

pub returns : goal.returns
returns c = record { law = law_timed }

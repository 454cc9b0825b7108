use Rattle.place_laws.proofs.Readying.{law_ready}
use Rattle.place_laws.proofs.laws.law_ready.Goals as goal

pub returns : goal.returns
returns c = record { law = law_ready c.law_ready.ensures.law }

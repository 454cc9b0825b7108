use Rattle.model_laws.proofs.Bounded.{law_bounded}
use Rattle.model_laws.proofs.Lasting.{bounded_lasting}
use Rattle.model_laws.proofs.BoundTests.{bounded_test}
use Rattle.model_laws.proofs.laws.law_bounded.Goals as goal

pub returns : goal.returns
returns c = record { law = law_bounded; lasting = bounded_lasting; test = bounded_test }

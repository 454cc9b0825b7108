use Rattle.model_laws.proofs.Writable.{law_writable}
use Rattle.model_laws.proofs.Lasting.{writable_lasting}
use Rattle.model_laws.proofs.BoundTests.{writable_test}
use Rattle.model_laws.proofs.laws.law_writable.Goals as goal

pub returns : goal.returns
returns c = record { law = law_writable; lasting = writable_lasting; test = writable_test }

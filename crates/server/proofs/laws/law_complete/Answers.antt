use Rattle.server.proofs.Completes.{complete}
use Rattle.server.proofs.laws.law_complete.Goals as goal

pub returns : goal.returns
returns g c = record { complete = complete _ _ _ _ }

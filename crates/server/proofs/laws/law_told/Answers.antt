use Rattle.server.proofs.Mistaken.{told}
use Rattle.server.proofs.laws.law_told.Goals as goal

pub returns : goal.returns
returns c = record { told = told }

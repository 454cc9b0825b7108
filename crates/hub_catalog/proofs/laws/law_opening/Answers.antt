use Rattle.hub_catalog.proofs.Called.{opening_stands}
use Rattle.hub_catalog.proofs.laws.law_opening.Goals as goal

pub returns : goal.returns
returns c = record { law = opening_stands }

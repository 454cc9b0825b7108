use Rattle.hub_catalog.proofs.Runs.{run_length}
use Rattle.hub_catalog.proofs.laws.law_places.Goals as goal

pub returns : goal.returns
returns c = record { law = λ old new entries run. run_length old new entries run }

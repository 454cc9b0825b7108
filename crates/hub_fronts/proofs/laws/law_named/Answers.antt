use Rattle.hub_fronts.proofs.Names.{run_named, run_sends}
use Rattle.hub_fronts.proofs.laws.law_named.Goals as goal

pub returns : goal.returns
returns c = record { law = run_named; sends = run_sends }

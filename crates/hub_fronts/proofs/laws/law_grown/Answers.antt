use Rattle.hub_fronts.proofs.Fronts.{all_grown}
use Rattle.hub_fronts.proofs.laws.law_grown.Goals as goal

pub returns : goal.returns
returns c = record { law = all_grown }

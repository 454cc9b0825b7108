use Rattle.consumer_state.proofs.Endings.{ends_one_same}
use Rattle.consumer_state.proofs.laws.law_ends_one.Goals as goal

pub returns : goal.returns
returns c = record { law = ends_one_same }

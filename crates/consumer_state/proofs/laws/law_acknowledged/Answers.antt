use Rattle.consumer_state.proofs.Endings.{acknowledged_is}
use Rattle.consumer_state.proofs.laws.law_acknowledged.Goals as goal

pub returns : goal.returns
returns c = record { law = acknowledged_is }

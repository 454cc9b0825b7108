use Rattle.consumer_state.proofs.Endings.{before_ending_same}
use Rattle.consumer_state.proofs.laws.law_before_ending.Goals as goal

pub returns : goal.returns
returns c = record { law = before_ending_same }

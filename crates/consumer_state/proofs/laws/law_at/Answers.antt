use Rattle.consumer_state.proofs.Currents.{ready_same}
use Rattle.consumer_state.proofs.laws.law_at.Goals as goal

pub returns : goal.returns
returns c = record { law = λ a consumer listening stored at. ready_same a consumer stored at listening }

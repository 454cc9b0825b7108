use Rattle.consumer_state.proofs.Keeping.{overflow_ends, overflow_same}
use Rattle.consumer_state.proofs.laws.law_overflow.Goals as goal

pub returns : goal.returns
returns c = record { law = λ consumer. (overflow_same consumer, overflow_ends consumer) }

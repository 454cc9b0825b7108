use Rattle.stored_stream.proofs.Limiting.{empty_within}
use Rattle.stream_state.proofs.Settling.{trimmed}
use Rattle.stream_state.proofs.state.StreamState.make.Goals as goal

pub returns-clause-settled : goal.returns-clause-settled
returns-clause-settled c = trimmed c.make.result c.make.ensures.sound (rw c.make.ensures.value (empty_within c.args.incarnation c.args.config c.args.now))

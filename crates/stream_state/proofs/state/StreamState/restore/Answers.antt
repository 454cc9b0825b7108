use Rattle.stream_state.proofs.Restored.{restored}
use Rattle.stream_state.proofs.Settling.{trimmed}
use Rattle.stream_state.proofs.state.StreamState.restore.Goals as goal

pub invariant_of-result : goal.invariant_of-result
invariant_of-result c = restored c.args.kept.now c.in_ok-stream.stream c.none.result c.in_ok-stream.ensures.value c.in_ok-stream.ensures.sound c.requires.proper c.requires.settled

pub returns-clause-settled : goal.returns-clause-settled
returns-clause-settled c =
    trimmed c.in_ok-stream.stream c.in_ok-stream.ensures.sound
    (restored c.args.kept.now c.in_ok-stream.stream c.none.result c.in_ok-stream.ensures.value c.in_ok-stream.ensures.sound c.requires.proper c.requires.settled).within

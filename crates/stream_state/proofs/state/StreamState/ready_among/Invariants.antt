use Rattle.js_model.specs.Advance.{advance}
use Rattle.stream_state.proofs.Handed.{AreUnready}
use Rattle.stream_state.proofs.state.StreamState.ready_among.Given as goal

-- none of those so far is ready
abbrev pub invariant-loop-place : goal.invariant-loop-place
invariant-loop-place l = AreUnready (advance l.self l.now) l.listening l.from l.place

use Rattle.std.proofs.Common.{true, ap, ◌∙◌}
use Rattle.js_model.specs.declared.stream.Stream.{Stream}
use Rattle.retention.specs.Over.{next_over}
use Rattle.followed_stream.proofs.Followings.{sound_as, verdict_as}
use Rattle.stream_state.proofs.state.StreamState.verdict.Goals as goal

pub verdict-requires-clause-sound : goal.verdict-requires-clause-sound
verdict-requires-clause-sound c = sound_as c.self.inside.stream c.stored.result.now c.stored.ensures.value c.self.invariant.attended

pub verdict-requires-clause-within : goal.verdict-requires-clause-within
verdict-requires-clause-within c = ap (λ (x : Stream). next_over x) c.stored.ensures.value ∙ c.self.invariant.within

pub returns : goal.returns
returns c = record { value = rw (← c.self.view_is) (rw (← verdict_as c.self.inside.stream c.stored.result.now c.args.publish.now true c.stored.ensures.value) c.verdict.ensures.value) }

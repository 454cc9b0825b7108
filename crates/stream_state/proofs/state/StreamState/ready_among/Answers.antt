use Rattle.js_model.specs.Advance.{advance}
use Rattle.stream_state.proofs.Handed.{unready_more, unready_none}
use Rattle.stream_state.proofs.state.StreamState.ready_among.Goals as goal

pub loop-place-init : goal.loop-place-init
loop-place-init c = unready_none (advance c.args.self.now c.args.now) c.args.listening.now c.args.from

pub loop-place-preserved : goal.loop-place-preserved
loop-place-preserved c =
    unready_more (advance c.args.self.now c.args.now) c.args.listening.now c.args.from c.loop-place.place c.is_ready.result c.loop-place.invariant c.is_ready.ensures.value c.if-is_ready.false

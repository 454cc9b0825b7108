use Rattle.std.proofs.Common.{◌∙◌}
use Rattle.js_model.specs.Advance.{advance}
use Rattle.memory_place.proofs.Readiness.{ready_is}
use Rattle.memory_place.proofs.live_stream.LiveStream.ready.Goals as goal

pub returns : goal.returns
returns c = record {
  value = rw (← c.self.view_is) (c.is_some.ensures ∙ ready_is (advance c.self.inside.state c.args.now) c.args.listening.now c.next_ready.result c.next_ready.ensures.finds);
}

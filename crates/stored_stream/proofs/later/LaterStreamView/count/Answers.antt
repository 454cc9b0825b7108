use Rattle.std.proofs.Common.{List, length, sym, ap, ◌∙◌}
use Rattle.js_model.specs.declared.stream.Message.{Message}
use Rattle.stored_stream.proofs.Latest.{count_from}
use Rattle.stored_stream.proofs.later.LaterStreamView.count.Goals as goal

pub returns : goal.returns
returns c =
    let i = c.self.inside in
    record {
      value = rw (← c.self.view_is) (c.count_from.ensures.value ∙ ap (λ (l : List Message). length l) (sym c.self.invariant.seen));
      bound = rw c.count_from.ensures.value (count_from i.stored.now i.first c.self.invariant.sound);
    }

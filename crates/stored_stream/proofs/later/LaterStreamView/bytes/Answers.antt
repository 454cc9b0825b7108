use Rattle.std.proofs.Common.{sym, ap, ◌∙◌}
use Rattle.std.specs.Prelude.{sum_by}
use Rattle.js_model.specs.Streams.{size}
use Rattle.stored_stream.proofs.Latest.{sizes_from}
use Rattle.stored_stream.proofs.later.LaterStreamView.bytes.Goals as goal

pub returns : goal.returns
returns c =
    let i = c.self.inside in
    record {
      value = rw (← c.self.view_is) (c.bytes_from.ensures.value ∙ ap (sum_by size) (sym c.self.invariant.seen));
      bound = rw c.bytes_from.ensures.value (sizes_from i.stored.now i.first c.self.invariant.sound);
    }

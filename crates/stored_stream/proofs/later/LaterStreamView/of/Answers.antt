use Rattle.std.proofs.Common.{List, sym, ap, ◌∙◌}
use Rattle.std.specs.Prelude.{filter}
use Rattle.js_base.specs.Bytes.{same}
use Rattle.js_model.specs.declared.stream.Message.{Message}
use Rattle.js_model.specs.Streams.{seqs}
use Rattle.stream_view.specs.Counting.{counts_of}
use Rattle.stored_stream.proofs.later.LaterStreamView.of.Goals as goal

pub returns : goal.returns
returns c = record {
  value = rw (← c.self.view_is) (c.counts_from.ensures.value ∙ ap (λ (l : List Message). counts_of (seqs (filter (λ m. same m.subject c.args.subject.now) l))) (sym c.self.invariant.seen));
}

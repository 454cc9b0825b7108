use Rattle.std.proofs.Common.{◌==◌, ap, ◌∙◌}
use Rattle.std.specs.List.{list_any}
use Rattle.std.proofs.lemmas.Result.{IfOk-weaker}
use Rattle.stream_view.specs.declared.counts.Counts.{Counts}
use Rattle.stored_stream.proofs.Counted.{matching_heads}
use Rattle.stored_stream.proofs.indexed.IndexedMessages.heads_matching.Goals as goal

pub returns : goal.returns
returns c =
    let i = c.self.inside in
    let is = c.as_slice.ensures.value ∙ c.in_ok-counted.ensures.value in
    record {
      value = rw (← c.self.view_is)
          (IfOk-weaker c.heads_of.result _ _
          (λ heads h. matching_heads i.subjects i.messages c.args.pattern.now heads c.self.invariant c.in_ok-counted.ensures.distinct (λ n. h n ∙ ap (list_any (λ (x : Counts). x.first == n)) is))
          c.heads_of.ensures.value);
    }

use Rattle.std.proofs.Common.{◌+◌, ◌++◌, ◌∷◌, [], List, ap, ◌∙◌}
use Rattle.js_base.specs.declared.out.Out.{Out}
use Rattle.js_model.specs.declared.consumer.Consumer.{Consumer}
use Rattle.js_model.specs.declared.entry.Delivered.TheVariants.{Sent}
use Rattle.js_model.specs.Deliver.{count_of}
use Rattle.consumer_state.proofs.consumer.Consumer.send.Goals as goal

pub returns-clause-sent : goal.returns-clause-sent
returns-clause-sent c = record {
  what_is =
      ap (λ n. Sent c.args.message.now.seq n (c.dseq-dseq.result + 1)) c.next_count-count.ensures.value
      ∙ ap (λ n. Sent c.args.message.now.seq (count_of c.args.self.now c.args.message.now.seq + 1) (n + 1)) (c.dseq-dseq.ensures.value ∙ ap (λ (x : Consumer). x.dseq) c.self.view_is);
  after_is = c.in_ok-put.ensures.ok;
  outs_are =
      c.from_vec.ensures
      ∙ c.in_ok-put.ensures.outs
      ∙ ap (λ (l : List Out). l ++ c.in_ok-out.out ∷ []) (c.into_vec-all.ensures ∙ c.replace.ensures.value)
      ∙ ap (λ (out : Out). c.args.outs.now ++ out ∷ []) c.in_ok-out.ensures.value;
}

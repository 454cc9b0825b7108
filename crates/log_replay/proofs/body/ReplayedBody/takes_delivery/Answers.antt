use Rattle.std.proofs.Common.{List, sym, subst, ◌∙◌}
use Rattle.std.proofs.lemmas.Bool.{OnTrue_at, OnTrue_from}
use Rattle.js_model.specs.declared.consumer.Consumer.{Consumer}
use Rattle.replayed_consumer.specs.Delivering.{CanDeliver}
use Rattle.log_replay.specs.Taken.{IsThere}
use Rattle.log_replay.proofs.body.ReplayedBody.takes_delivery.Goals as goal

pub returns : goal.returns
returns c = record {
  there = OnTrue_from c.one_takes_delivery.result _ (λ is.
      rw (← c.self.view_is)
      (record {
        stored = sym c.is_stored.ensures.value ∙ c.if-not-is_stored.false;
        there = subst (λ (cs : List Consumer). IsThere cs c.args.name.now (λ d. CanDeliver d c.args.entry c.args.dseq)) c.as_slice.ensures.value (OnTrue_at is c.one_takes_delivery.ensures.there);
      }));
}

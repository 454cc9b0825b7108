use Rattle.std.proofs.Common.{◌≡◌, ◌∷◌, [], ◌++◌, List, refl, sym, ap, ◌∙◌}
use Rattle.std.proofs.lemmas.List.{nil_from_length}
use Rattle.js_model.specs.declared.consumer.Consumer.{Consumer}
use Rattle.replayed_consumer.specs.Replayed.{IsReplayable}
use Rattle.log_replay.proofs.Restored.{all_in, next_holds, one_more}
use Rattle.log_replay.proofs.restoring.replayed_of.Goals as goal

pub of-requires : goal.of-requires
of-requires c =
    let before = c.loop-consumer.yielded in
    let rest = c.next.new.self.rest.items in
    record {
      replayable = next_holds IsReplayable before c.in-Some.consumer rest c.args.consumers
          (ap (λ (xs : List Consumer). before ++ xs) (sym c.in-Some.ensures.steps.0) ∙ c.loop-consumer.invariant.all) c.requires.replayable;
    }

pub loop-consumer-preserved : goal.loop-consumer-preserved
loop-consumer-preserved c =
    let before = c.loop-consumer.yielded in
    let x = c.in-Some.consumer in
    let rest = c.next.new.self.rest.items in
    let is : before ++ x ∷ rest ≡ c.args.consumers = ap (λ (xs : List Consumer). before ++ xs) (sym c.in-Some.ensures.steps.0) ∙ c.loop-consumer.invariant.all in
    record {
      all = one_more before (before ++ x ∷ []) rest c.args.consumers x is refl;
      made = c.in_ok-push.ensures.items ∙ ap (λ (y : Consumer). c.loop-consumer.replayed.items ++ y ∷ []) c.in_ok-of.ensures.value
          ∙ ap (λ (cs : List Consumer). cs ++ x ∷ []) c.loop-consumer.invariant.made;
    }

pub returns : goal.returns
returns c =
    let rest = c.loop-consumer.consumer-iterator.rest in
    record {
      value = c.loop-consumer.invariant.made
          ∙ all_in c.loop-consumer.yielded rest.items c.args.consumers c.loop-consumer.invariant.all (nil_from_length rest.items (sym rest.ok.0 ∙ c.in-None.ensures.steps.0));
    }

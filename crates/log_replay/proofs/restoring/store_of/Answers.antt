use Rattle.std.proofs.Common.{◌≡◌, ◌<◌, ◌∷◌, [], ◌++◌, List, ◌^◌, All, length, refl, sym, ap, subst, ◌∙◌, arith}
use Rattle.std.proofs.lemmas.List.{nil_from_length}
use Rattle.js_model.specs.declared.stream.Message.{Message}
use Rattle.message_store.specs.Stored.{IsSmall}
use Rattle.log_replay.proofs.Restored.{all_before, all_in, few_before, next_holds, one_more}
use Rattle.log_replay.proofs.restoring.store_of.Goals as goal

pub push-requires : goal.push-requires
push-requires c =
    let before = c.loop-message.yielded in
    let m = c.in-Some.message in
    let rest = c.next.new.self.rest.items in
    let stored : c.loop-message.store ≡ before = c.loop-message.invariant.stored in
    let is : before ++ m ∷ rest ≡ c.args.messages = ap (λ (xs : List Message). before ++ xs) (sym c.in-Some.ensures.steps.0) ∙ c.loop-message.invariant.all in
    let few : length before < 2 ^ 24 = few_before (2 ^ 24) before m rest c.args.messages is c.requires.few in
    record {
      above = subst (λ (ms : List Message). All (λ x. x.seq < m.seq) ms) (sym stored) (all_before c.requires.ascend.0 before m rest c.args.messages is c.requires.ascend.1);
      small = next_holds IsSmall before m rest c.args.messages is c.requires.small;
      room = let long = ap length stored in omega (arith, few, long);
    }

pub loop-message-preserved : goal.loop-message-preserved
loop-message-preserved c =
    let before = c.loop-message.yielded in
    let m = c.in-Some.message in
    let rest = c.next.new.self.rest.items in
    let is : before ++ m ∷ rest ≡ c.args.messages = ap (λ (xs : List Message). before ++ xs) (sym c.in-Some.ensures.steps.0) ∙ c.loop-message.invariant.all in
    record {
      all = one_more before (before ++ m ∷ []) rest c.args.messages m is refl;
      stored = c.in_ok-push.ensures.ok ∙ ap (λ (ms : List Message). ms ++ m ∷ []) c.loop-message.invariant.stored;
    }

pub returns : goal.returns
returns c =
    let rest = c.loop-message.message-iterator.rest in
    record {
      value = c.loop-message.invariant.stored
          ∙ all_in c.loop-message.yielded rest.items c.args.messages c.loop-message.invariant.all (nil_from_length rest.items (sym rest.ok.0 ∙ c.in-None.ensures.steps.0));
    }

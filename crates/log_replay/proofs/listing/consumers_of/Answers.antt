use Rattle.std.proofs.Common.{◌≡◌, ◌∷◌, ◌++◌, [], Option, refl, ap, ◌∙◌}
use Rattle.std.specs.Option.{option_to_list}
use Rattle.js_model.specs.declared.consumer.Consumer.{Consumer}
use Rattle.log_replay.proofs.Moving.{all_moved, fewer_left, one_moved}
use Rattle.log_replay.proofs.listing.consumers_of.Goals as goal

pub loop-consumer-init : goal.loop-consumer-init
loop-consumer-init c = rw c.new-consumers.ensures refl

pub loop-consumer-smaller : goal.loop-consumer-smaller
loop-consumer-smaller c =
    let new = c.take_first_consumer.new.consumers.items in
    let is : c.loop-consumer.left.items ≡ c.in-Some.consumer ∷ new = c.take_first_consumer.ensures.first ∙ ap (λ (o : Option Consumer). option_to_list o ++ new) c.in-Some.is in
    fewer_left c.loop-consumer.left.items new c.in-Some.consumer is

pub loop-consumer-preserved : goal.loop-consumer-preserved
loop-consumer-preserved c =
    let new = c.take_first_consumer.new.consumers.items in
    let is : c.loop-consumer.left.items ≡ c.in-Some.consumer ∷ new = c.take_first_consumer.ensures.first ∙ ap (λ (o : Option Consumer). option_to_list o ++ new) c.in-Some.is in
    let pushed = c.in_ok-push.ensures.ok ∙ ap (λ (x : Consumer). c.loop-consumer.consumers ++ x ∷ []) c.in_ok-into_consumer.ensures.value in
    one_moved c.loop-consumer.consumers c.push.new.self c.loop-consumer.left.items new c.args.replayed.items c.in-Some.consumer c.loop-consumer.invariant is pushed

pub returns : goal.returns
returns c = record { value = all_moved c.loop-consumer.consumers c.loop-consumer.left.items c.args.replayed.items c.loop-consumer.invariant (c.take_first_consumer.ensures.none c.in_default.is) }

-- A consumer that is made stands in what the event leaves, as it was made.
use Rattle.std.proofs.Common.{◌≡◌, ℕ, max, Bool, true, false, List, refl, sym, ap, ◌∙◌, subst}
use Rattle.std.specs.Prelude.{Option, Some, None, option_map}
use Rattle.js_base.specs.Bytes.{Bytes}
use Rattle.js_base.specs.declared.out.Out.{Out}
use Rattle.js_base.specs.declared.out.ApiError.{ApiError}
use Rattle.js_model.specs.declared.consumer_config.ConsumerConfig.{ConsumerConfig}
use Rattle.js_model.specs.declared.stream.Stream.{Stream}
use Rattle.js_model.specs.declared.stream.State.{State}
use Rattle.js_model.specs.declared.stream.State.TheVariants.{Live}
use Rattle.js_model.specs.declared.consumer.Consumer.{Consumer}
use Rattle.js_model.specs.declared.event.Event.{Event}
use Rattle.js_model.specs.declared.event.What.{What}
use Rattle.js_model.specs.declared.event.What.TheVariants.{MakeConsumer}
use Rattle.js_model.specs.declared.reply.ConsumerInfo.{ConsumerInfo}
use Rattle.js_model.specs.declared.reply.Reply.{Reply}
use Rattle.js_model.specs.declared.reply.Reply.TheVariants.{ConsumerInfo as ConsumerTold, Refused}
use Rattle.js_model.specs.declared.reply.Answer.{Answer}
use Rattle.js_model.specs.Streams.{by_name, confined, seqs}
use Rattle.js_model.specs.Refusals.{first_refusal}
use Rattle.js_model.specs.Advance.{advance, aged, consumer_at, young}
use Rattle.js_model.specs.Consumers.{new_consumer, with_new, making_checks}
use Rattle.js_model.specs.Events.{answered, stream_answer, told_of, consumer_made, or_no_room, consumer_asked, IsEvent}
use Rattle.model_laws.specs.OneConsumer.{drops}
use Rattle.model_laws.specs.Order.{Makes}
use Rattle.js_model.proofs.Named.{none_some, by_name-map, by_name-made}
use Rattle.model_laws.proofs.Facts.{at_settled}
use Rattle.model_laws.proofs.ConsumerFacts.{IsKept, InStream, InState, in_stream_fact}

-- time makes no consumer
pub absent_at_time : (s : Stream) (now : ℕ) (name : Bytes) → by_name s.consumers name ≡ None → by_name (advance s now).consumers name ≡ None
unfolding advance
absent_at_time s now name h =
    by_name-map (consumer_at at) (record { name = λ c. refl }) (aged s at).consumers name
    ∙ ap (option_map (consumer_at at)) (by_name-map (confined (seqs (young s at))) (record { name = λ c. refl }) s.consumers name ∙ ap (option_map (confined (seqs (young s at)))) h)
  where
    at : ℕ
    at = max s.moment now

refused_told : {e : ApiError} {info : ConsumerInfo} → Refused e ≡ ConsumerTold info → ⊥
refused_told h = cc

module _ (name : Bytes) (config : ConsumerConfig) (P : Consumer → Type 0) (k : IsKept P) where
  told_made : (s : Stream) (c : Option Consumer) → InStream name P s → InState name P (told_of s c).state
  told_made s None h = h
  told_made s (Some c) h = h

  asked_made : (s : Stream) (update room : Bool) (c : Option Consumer) (info : ConsumerInfo) → c ≡ None → by_name s.consumers name ≡ None → P (new_consumer s name config) → (consumer_asked s name config update room c).reply ≡ ConsumerTold info
      → InState name P (consumer_asked s name config update room c).state
  asked_made s true room None info q e p r = absurd (refused_told r)
  asked_made s false room None info q e p r = go (or_no_room room (first_refusal (making_checks s name config))) r
    where
      go : (refusal : Option ApiError) → (consumer_made s name config refusal).reply ≡ ConsumerTold info → InState name P (consumer_made s name config refusal).state
      go None w =
          told_made (record s { consumers = with_new s.consumers (new_consumer s name config) }) _
          (record { consumer = new_consumer s name config; found = by_name-made s.consumers (new_consumer s name config) e; holds = p })
      go (Some refusal) w = absurd (refused_told w)
  asked_made s update room (Some c) info q e p r = absurd (none_some (sym q))

  -- what holds of a new consumer, and is kept, holds of the one that is made
  pub in_made : (s : Stream) (new : State) (e : Event) (now : ℕ) (reply : Reply) (outs : List Out) → IsEvent (Live s) e now reply outs new → Makes (Live s) e reply name config → P (new_consumer (advance s now) name config) → InState name P new
  unfolding answered
  in_made s new e now reply outs x m p =
      subst (InState name P) (ap (λ (a : Answer). a.state) x.answers)
      (at_settled (λ w. drops name w ≡ false) ⊥ (InStream name P) (in_stream_fact name P k) (stream_answer (advance s now) e.what x.room).state
      (subst (λ (w : What). InState name P (stream_answer (advance s now) w x.room).state) (sym m.event)
      (asked_made (advance s now) m.update x.room (by_name (advance s now).consumers name) m.info absent absent p (told ∙ m.told))))
    where
      absent : by_name (advance s now).consumers name ≡ None
      absent = absent_at_time s now name m.absent

      told : (stream_answer (advance s now) (MakeConsumer m.asked name config m.update) x.room).reply ≡ reply
      told = subst (λ (w : What). (stream_answer (advance s now) w x.room).reply ≡ reply) m.event (ap (λ (a : Answer). a.reply) x.answers)

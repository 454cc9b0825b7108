-- What the records of a delivery make of what a volume holds.
use Rattle.std.proofs.Common.{◌≡◌, ℕ, ◌+◌, Bool, cond, List, [], ◌++◌, refl, sym, ap, ◌∙◌, subst}
use Rattle.std.specs.Prelude.{Option, Some, None, All}
use Rattle.std.proofs.lemmas.Bool.{eq-eqb}
use Rattle.js_base.specs.Bytes.{Bytes}
use Rattle.js_base.specs.Moments.{plus}
use Rattle.js_base.specs.declared.out.Out.{Out}
use Rattle.js_model.specs.declared.stream.Message.{Message}
use Rattle.js_model.specs.declared.stream.Stream.{Stream}
use Rattle.js_model.specs.declared.stream.State.{State}
use Rattle.js_model.specs.declared.stream.State.TheVariants.{Live}
use Rattle.js_model.specs.declared.consumer.Pending.{Pending}
use Rattle.js_model.specs.declared.consumer.Consumer.{Consumer}
use Rattle.js_model.specs.declared.entry.Delivered.{Delivered}
use Rattle.js_model.specs.declared.entry.Delivered.TheVariants.{Sent, TooSmall, Emptied}
use Rattle.js_model.specs.declared.entry.Delivery.{Delivery}
use Rattle.js_model.specs.Streams.{by_name, with_consumer}
use Rattle.js_model.specs.Lasting.{lasting_consumer}
use Rattle.js_model.specs.Advance.{advance}
use Rattle.js_model.specs.Retention.{kept}
use Rattle.js_model.specs.Deliver.{count_of, sent_to, Delivers, IsDelivery}
use Rattle.js_model.specs.Runs.{messages_of}
use Rattle.js_model.proofs.Parts.{filter_part}
use Rattle.model_laws.specs.Bounds.{IsBoundedConsumer}
use Rattle.model_laws.proofs.Whole.{IsSoundStream}
use Rattle.model_laws.proofs.ConsumerFacts.{after_name}
use Rattle.model_laws.proofs.Sounding.{sound_found}
use Rattle.model_laws.proofs.SoundAcks.{sound_with}
use Rattle.model_laws.proofs.SoundSent.{delivered_sound}
use Rattle.model_laws.proofs.SoundTime.{sound_time}
use Rattle.effects.specs.Folding.{delivered, delivered_to}
use Rattle.effects.specs.TimeEffects.{removals, time_effects}
use Rattle.effects.specs.Effects.{sent_effects, delivery_effects}
use Rattle.effects.specs.Laws.{Leads}
use Rattle.effects.proofs.Removing.{leads_only, leads_both}
use Rattle.effects.proofs.Passing.{leads_time}
use Rattle.effects.proofs.Replacing.{leads_step, same_lasting}

module _ (a : Stream) (listening : List Bytes) (name : Bytes) (c after : Consumer) (h : IsSoundStream a) (found : by_name a.consumers name ≡ Some c) where
  -- the record of a message that is sent has what the delivery computed
  sent_step : (m : Message) (seq count dseq : ℕ) → seq ≡ m.seq → count ≡ count_of c m.seq + 1 → dseq ≡ c.dseq + 1 → after ≡ sent_to a.moment m c
      → delivered (record { seq = seq; count = count; due = plus a.moment c.config.ack_wait }) dseq (Some (lasting_consumer c)) ≡ Some (lasting_consumer after)
  sent_step m seq count dseq e f g k =
      ap (λ (n : ℕ). delivered (record { seq = n; count = count; due = due }) dseq (Some (lasting_consumer c))) e
      ∙ ap (λ (n : ℕ). delivered (record { seq = m.seq; count = n; due = due }) dseq (Some (lasting_consumer c))) f
      ∙ ap (λ (n : ℕ). delivered entry n (Some (lasting_consumer c))) g
      ∙ ap (λ (b : Bool). cond b (Some (delivered_to entry (c.dseq + 1) (lasting_consumer c))) None) (eq-eqb (c.dseq + 1) (c.dseq + 1) refl)
      ∙ ap (λ (d : Consumer). Some (lasting_consumer d)) (sym k)
    where
      due : ℕ
      due = plus a.moment c.config.ack_wait

      entry : Pending
      entry = record { seq = m.seq; count = count_of c m.seq + 1; due = due }

  leads_sent : (what : Delivered) (outs : List Out) → Delivers a listening c what outs after → Leads (Live a) (sent_effects a what (Some c)) (Live (with_consumer a after))
  leads_sent (Sent seq count dseq) outs x =
      leads_step a name c after (delivered (record { seq = seq; count = count; due = plus a.moment c.config.ack_wait }) dseq) found
      (sent_step x.message seq count dseq x.seq_is x.count_is x.dseq_is x.after_is)
  leads_sent TooSmall outs x = same_lasting a name c after h.ordered found (after_name a listening c after TooSmall outs x) (ap lasting_consumer x.after_is)
  leads_sent Emptied outs x = same_lasting a name c after h.ordered found (after_name a listening c after Emptied outs x) (ap lasting_consumer x.after_is)

leads_kept : (s : Stream) → IsSoundStream s → Leads (Live s) (removals [] s.messages (kept s).messages) (Live (kept s))
unfolding kept
leads_kept s h = leads_only s (kept s).messages h (filter_part _ s.messages)

pub leads_delivery : (s : Stream) (new : State) (now : ℕ) (listening : List Bytes) (d : Delivery) (outs : List Out) → IsDelivery s now listening d outs new → IsSoundStream s → All IsBoundedConsumer s.consumers
    → Leads (Live s) (delivery_effects (Live s) now d new) new
leads_delivery s new now listening d outs x h b =
    leads_both (Live s) (Live a) new (time_effects s now) (sent_effects a d.what (by_name a.consumers d.consumer) ++ removals [] a.messages (messages_of new))
    (leads_time s now h b)
    (subst (λ (n : State). Leads (Live a) (sent_effects a d.what (by_name a.consumers d.consumer) ++ removals [] a.messages (messages_of n)) n) (sym x.new_is)
    (subst (λ (o : Option Consumer). Leads (Live a) (sent_effects a d.what o ++ removals [] a.messages (kept after).messages) (Live (kept after))) (sym x.found)
    (leads_both (Live a) (Live after) (Live (kept after)) (sent_effects a d.what (Some x.consumer)) (removals [] a.messages (kept after).messages)
    (leads_sent a listening d.consumer x.consumer x.after sound x.found d.what x.own x.delivers)
    (leads_kept after (sound_with a x.after (delivered_sound a listening x.consumer x.after d.what x.own sound.messages x.delivers (sound_found s now listening d outs new x h)) sound)))))
  where
    a : Stream
    a = advance s now

    after : Stream
    after = with_consumer (advance s now) x.after

    sound : IsSoundStream (advance s now)
    sound = sound_time s now h

-- What the records of an event or a delivery make of what a volume holds is what the event or the delivery makes of it.
use Rattle.std.proofs.Common.{◌≡◌, ℕ, ◌+◌, ◌^◌, Bool, true, false, cond, List, [], ◌∷◌, refl, sym, ap, ◌∙◌, subst}
use Rattle.std.specs.Prelude.{Some, None, ◌==◌}
use Rattle.std.proofs.lemmas.Bool.{eq-eqb, and_parts}
use Rattle.js_model.specs.Lists.{IsPart}
use Rattle.js_model.specs.declared.stream_config.StreamConfig.{StreamConfig}
use Rattle.js_model.specs.declared.stream.Message.{Message}
use Rattle.js_model.specs.declared.stream.Stream.{Stream}
use Rattle.js_model.specs.declared.stream.State.TheVariants.{Vacant, Live}
use Rattle.js_model.specs.declared.event.What.{What}
use Rattle.js_model.specs.declared.event.What.TheVariants.{Make, Change, Drop as DropStream, Publish as PublishIt, Purge, Delete, MakeConsumer, DropConsumer, Ack as AckIt, Pull as PullIt, Tick, StreamInfo as AskStream, MessageGet, ConsumerInfo as AskConsumer, ConsumerNames, ConsumerList}
use Rattle.js_model.specs.declared.reply.Answer.{Answer}
use Rattle.js_model.specs.Advance.{advance}
use Rattle.js_model.specs.Consumers.{empty_stream}
use Rattle.js_model.specs.Trim.{trim}
use Rattle.js_model.specs.Retention.{kept}
use Rattle.js_model.specs.Events.{answered, settled, settled_state, stream_answer, vacant_answer, stream_made, vacantly}
use Rattle.js_model.specs.Refusals.{numbers_used_up}
use Rattle.js_model.specs.declared.reply.Reply.TheVariants.{Refused}
use Rattle.js_model.proofs.Parts.{filter_part, trim_part, part_trans}
use Rattle.model_laws.proofs.Whole.{IsSoundStream, join}
use Rattle.model_laws.proofs.Sounding.{IsProperWhat}
use Rattle.model_laws.proofs.SoundTime.{sound_time}
use Rattle.effects.specs.declared.effect.Effect.TheVariants.{MakeStream}
use Rattle.effects.specs.Folding.{live, empty_body}
use Rattle.effects.specs.TimeEffects.{time_effects}
use Rattle.effects.specs.Effects.{stream_effects, vacant_effects, live_effects, event_effects}
use Rattle.effects.specs.Laws.{Leads, LawEvents, LawDeliveries}
use Rattle.effects.proofs.Removing.{leads_settled, leads_both}
use Rattle.effects.proofs.Passing.{leads_time}
use Rattle.effects.proofs.OwnStreams.{LeadsOn, leads_make, leads_change, leads_drop, leads_purge, leads_delete, leads_message}
use Rattle.effects.proofs.OwnPublishes.{leads_publish}
use Rattle.effects.proofs.OwnConsumers.{leads_make_consumer, leads_drop_consumer, leads_told, leads_pull}
use Rattle.effects.proofs.OwnAcks.{leads_ack}
use Rattle.effects.proofs.Sending.{leads_delivery}

leads_on : (a : Stream) (what : What) (room : Bool) → IsProperWhat what → IsSoundStream a → LeadsOn a what room
leads_on a (Make reply config) room g h = leads_make a reply config room h
leads_on a (Change reply config) room g h = leads_change a reply config room g h
leads_on a (DropStream reply) room g h = leads_drop a reply room
leads_on a (PublishIt p) room g h = leads_publish a p room h
leads_on a (Purge reply pattern below keep) room g h = leads_purge a reply pattern below keep room h
leads_on a (Delete reply n) room g h = leads_delete a reply n room h
leads_on a (MakeConsumer reply name config update) room g h = leads_make_consumer a reply name config update room g h
leads_on a (DropConsumer reply name) room g h = leads_drop_consumer a reply name room g h
leads_on a (AckIt reply ack) room g h = leads_ack a reply ack room g h
leads_on a (PullIt reply name ask) room g h = leads_pull a reply name ask room g h
leads_on a Tick room g h = leads_settled a h
leads_on a (AskStream reply) room g h = leads_settled a h
leads_on a (MessageGet reply by) room g h = leads_message a reply by room h
leads_on a (AskConsumer reply name) room g h = leads_told a reply name room h
leads_on a (ConsumerNames reply offset) room g h = leads_settled a h
leads_on a (ConsumerList reply offset) room g h = leads_settled a h

-- ---- where there is no stream

part_nil : {X : Type 0} {ys xs : List X} → IsPart ys xs → xs ≡ [] → ys ≡ []
part_nil IsPart.none e = refl
part_nil (IsPart.keep p) e = cc
part_nil (IsPart.skip p) e = cc

leads_new : (i now : ℕ) (config : StreamConfig) → Leads (Vacant i) (MakeStream (i + 1) now config ∷ []) (Live (settled (empty_stream (i + 1) config now)))
unfolding trim kept
leads_new i now config =
    ap (λ (b : Bool). cond b (Some (live (i + 1) (empty_body now config))) None) (eq-eqb (i + 1) (i + 1) refl)
    ∙ ap (λ (ms : List Message). Some (live (i + 1) (record (empty_body now config) { messages = ms }))) (sym (part_nil (part_trans (filter_part _ (trim (empty_stream (i + 1) config now)).messages) (trim_part (empty_stream (i + 1) config now))) refl))

leads_vacant : (i : ℕ) (what : What) (now : ℕ) (room : Bool) → Leads (Vacant i) (vacant_effects i what now room) (settled_state (vacant_answer i what now room).state)
leads_vacant i (Make reply config) now room = go (i + 1 == 2 ^ 62) room
  where
    answer : (b room : Bool) → Answer
    answer b room = cond b (vacantly (Refused numbers_used_up) i) (stream_made i config now room)

    go : (b room : Bool) → Leads (Vacant i) (cond b [] (stream_effects i config now room)) (settled_state (answer b room).state)
    go true room = refl
    go false false = refl
    go false true = leads_new i now config
leads_vacant i (Change reply config) now room = refl
leads_vacant i (DropStream reply) now room = refl
leads_vacant i (PublishIt p) now room = refl
leads_vacant i (Purge reply pattern below keep) now room = refl
leads_vacant i (Delete reply n) now room = refl
leads_vacant i (MakeConsumer reply name config update) now room = refl
leads_vacant i (DropConsumer reply name) now room = refl
leads_vacant i (AckIt reply ack) now room = refl
leads_vacant i (PullIt reply name ask) now room = refl
leads_vacant i Tick now room = refl
leads_vacant i (AskStream reply) now room = refl
leads_vacant i (MessageGet reply by) now room = refl
leads_vacant i (AskConsumer reply name) now room = refl
leads_vacant i (ConsumerNames reply offset) now room = refl
leads_vacant i (ConsumerList reply offset) now room = refl

-- ---- the laws

pub law_events : LawEvents
unfolding answered
law_events count (Vacant i) new e now reply outs x h b =
    subst (Leads (Vacant i) (vacant_effects i e.what now x.event.room)) (ap (λ (a : Answer). a.state) x.event.answers) (leads_vacant i e.what now x.event.room)
law_events count (Live s) new e now reply outs x h b =
    let sound = join (Live s) h in
    subst (Leads (Live s) (event_effects (Live s) e.what now x.event.room)) (ap (λ (a : Answer). a.state) x.event.answers)
    (leads_both (Live s) (Live (advance s now)) (settled_state (stream_answer (advance s now) e.what x.event.room).state) (time_effects s now) (live_effects (advance s now) e.what x.event.room)
    (leads_time s now sound b.each_consumer)
    (leads_on (advance s now) e.what x.event.room (and_parts _ _ x.proper).1 (sound_time s now sound)))

pub law_deliveries : LawDeliveries
law_deliveries (Vacant i) new now listening d outs x h b = absurd x
law_deliveries (Live s) new now listening d outs x h b = leads_delivery s new now listening d outs x (join (Live s) h) b.each_consumer

-- The changes of each event and of each delivery may be recorded.
use Rattle.std.proofs.Common.{◌≡◌, ◌≢◌, ℕ, ◌+◌, ◌<◌, ◌≤◌, ◌-◌, ◌^◌, Bool, true, false, cond, List, [], ◌∷◌, ◌++◌, refl, sym, subst, arith}
use Rattle.std.specs.Prelude.{Option, Some, ◌==◌, ⊤}
use Rattle.std.proofs.lemmas.Bool.{and_parts, and_from, eqb-false}
use Rattle.js_base.specs.Bytes.{Bytes}
use Rattle.js_base.specs.Moments.{plus}
use Rattle.js_base.specs.declared.out.Out.{Out}
use Rattle.js_model.specs.declared.stream.Stream.{Stream}
use Rattle.js_model.specs.declared.stream.State.{State}
use Rattle.js_model.specs.declared.stream.State.TheVariants.{Vacant, Live}
use Rattle.js_model.specs.declared.consumer.Consumer.{Consumer}
use Rattle.js_model.specs.declared.event.Publish.{Publish}
use Rattle.js_model.specs.declared.event.What.{What}
use Rattle.js_model.specs.declared.event.What.TheVariants.{Make, Change, Drop as DropStream, Publish as PublishIt, Purge, Delete, MakeConsumer, DropConsumer, Ack as AckIt, Pull as PullIt, Tick, StreamInfo as AskStream, MessageGet, ConsumerInfo as AskConsumer, ConsumerNames, ConsumerList}
use Rattle.js_model.specs.declared.reply.Verdict.TheVariants.{Take}
use Rattle.js_model.specs.declared.entry.Delivered.{Delivered}
use Rattle.js_model.specs.declared.entry.Delivered.TheVariants.{Sent, TooSmall, Emptied}
use Rattle.js_model.specs.Streams.{by_name}
use Rattle.js_model.specs.Advance.{advance}
use Rattle.js_model.specs.Deliver.{count_of, Delivers}
use Rattle.js_model.specs.Events.{with_message, with_id, stream_answer}
use Rattle.js_model.specs.Runs.{messages_of}
use Rattle.js_model.specs.Verdict.{verdict, late_checks, message_of}
use Rattle.js_model.proofs.Candidates.{IsCandidate, candidate_is}
use Rattle.model_laws.specs.Sound.{IsSound}
use Rattle.model_laws.specs.Bounds.{IsBounded}
use Rattle.model_laws.proofs.Whole.{IsSoundConsumer, IsSoundStream, join}
use Rattle.model_laws.proofs.Facts.{IsChangeFact, IfLive, change_answer, at_answer}
use Rattle.model_laws.proofs.Bounded.{ArePassed, all_passed, taken_passed}
use Rattle.model_laws.proofs.Sounding.{IsProperWhat, sound_fact, sound_found}
use Rattle.model_laws.proofs.SoundSent.{IsDeliverable, deliverable}
use Rattle.model_laws.proofs.SoundTime.{sound_time}
use Rattle.effects.specs.declared.effect.Effect.TheVariants.{MakeStream, Deliver}
use Rattle.effects.specs.TimeEffects.{time_effects}
use Rattle.effects.specs.Effects.{own_effects, skipped, settle_effects, live_effects, stream_effects, vacant_effects, sent_effects}
use Rattle.op_records.specs.Allowed.{is_record}
use Rattle.record_laws.specs.Laws.{LawEventRecords, LawDeliveryRecords}
use Rattle.record_laws.proofs.Allowing.{Allowed, together, just, number, consumer_name}
use Rattle.record_laws.proofs.Removing.{allowed_removals}
use Rattle.record_laws.proofs.Passing.{IsNumbered, allowed_time, allowed_drops}
use Rattle.record_laws.proofs.OwnRecords.{allowed_own}

-- ---- what an event leaves has a number as its last sequence

abbrev HasLast : Stream → Type 0
HasLast s = s.last < 2 ^ 62

last_stored : (s : Stream) (p : Publish) (room : Bool) → verdict s p room ≡ Take → HasLast s → HasLast (with_message s p)
last_stored s p room e h = go p.wants.id
  where
    late : ArePassed (late_checks s p room)
    late = all_passed (late_checks s p room) (taken_passed s p room e).1

    next : s.last + 1 < 2 ^ 62
    next = let free : s.last + 1 ≢ 2 ^ 62 = eqb-false (s.last + 1) (2 ^ 62) late.1.1.1.1.1.1.0 in let q : s.last < 2 ^ 62 = h in omega arith

    go : (id : Bytes) → HasLast (with_id (record s { messages = s.messages ++ message_of s p ∷ []; last = s.last + 1 }) id)
    go [] = next
    go (byte ∷ more) = next

last_change : IsChangeFact IsProperWhat ⊤ HasLast
last_change = record {
  gone = λ s reply g h. tt;
  only = λ s messages p h. h;
  configured = λ s reply config g h. h;
  stored = λ s p room g e h. last_stored s p room e h;
  made = λ s reply name config g e r h. h;
  removed = λ s reply name c g e h. h;
  acked = λ s reply ack c g e q h. h;
  pulled = λ s reply name ask c g e h. h;
}

-- ---- events

numbered_at : (s : Stream) (now : ℕ) → now < 2 ^ 62 → IsNumbered s → IsNumbered (advance s now)
unfolding advance
numbered_at s now l h = record { sound = sound_time s now h.sound; last = h.last; moment = let q : s.moment < 2 ^ 62 = h.moment in omega arith }

-- whatever an event leaves
allowed_left : (missing : List ℕ) (s : State) → IfLive ⊤ IsSoundStream s → IfLive ⊤ HasLast s → Allowed (settle_effects missing s)
allowed_left missing (Vacant i) h l = refl
allowed_left missing (Live s) h l = allowed_drops missing s h l

allowed_live : (a : Stream) (what : What) (room : Bool) → IsProperWhat what → IsNumbered a → Allowed (live_effects a what room)
allowed_live a what room g h =
    together (own_effects a what room) _ (allowed_own a h what room g)
    (allowed_left (skipped a what room) (stream_answer a what room).state (at_answer IsProperWhat ⊤ IsSoundStream sound_fact a what room g h.sound) (change_answer IsProperWhat ⊤ HasLast last_change a what room g h.last))

allowed_vacant : (i : ℕ) (what : What) (now : ℕ) (room : Bool) → i < 2 ^ 62 → now < 2 ^ 62 → IsProperWhat what → Allowed (vacant_effects i what now room)
allowed_vacant i (Make reply config) now room l m g = go (i + 1 == 2 ^ 62) room refl
  where
    go : (b room : Bool) → (i + 1 == 2 ^ 62) ≡ b → Allowed (cond b [] (stream_effects i config now room))
    go true room e = refl
    go false false e = refl
    go false true e = let free : i + 1 ≢ 2 ^ 62 = eqb-false (i + 1) (2 ^ 62) e in just (MakeStream (i + 1) now config) (and_from _ _ (and_from _ _ (number (i + 1) (omega arith)) (number now m)) g)
allowed_vacant i (Change reply config) now room l m g = refl
allowed_vacant i (DropStream reply) now room l m g = refl
allowed_vacant i (PublishIt p) now room l m g = refl
allowed_vacant i (Purge reply pattern below keep) now room l m g = refl
allowed_vacant i (Delete reply n) now room l m g = refl
allowed_vacant i (MakeConsumer reply name config update) now room l m g = refl
allowed_vacant i (DropConsumer reply name) now room l m g = refl
allowed_vacant i (AckIt reply ack) now room l m g = refl
allowed_vacant i (PullIt reply name ask) now room l m g = refl
allowed_vacant i Tick now room l m g = refl
allowed_vacant i (AskStream reply) now room l m g = refl
allowed_vacant i (MessageGet reply by) now room l m g = refl
allowed_vacant i (AskConsumer reply name) now room l m g = refl
allowed_vacant i (ConsumerNames reply offset) now room l m g = refl
allowed_vacant i (ConsumerList reply offset) now room l m g = refl

numbered : (s : Stream) → IsSound (Live s) → IsBounded (Live s) → IsNumbered s
numbered s h b = record { sound = join (Live s) h; last = b.last; moment = b.moment }

pub event_records : LawEventRecords
event_records (Vacant i) e now room proper l h b = allowed_vacant i e.what now room b l (and_parts _ _ proper).1
event_records (Live s) e now room proper l h b =
    let k = numbered s h b in
    together (time_effects s now) _ (allowed_time s now l k) (allowed_live (advance s now) e.what room (and_parts _ _ proper).1 (numbered_at s now l k))

-- ---- deliveries

allowed_sent : (a : Stream) (listening : List Bytes) (what : Delivered) (own : List Out) (c after : Consumer) → Delivers a listening c what own after → IsNumbered a → IsSoundConsumer a.messages a.last c
    → Allowed (sent_effects a what (Some c))
allowed_sent a listening (Sent seq count dseq) own c after x h k = just (Deliver c.name seq count (plus a.moment c.config.ack_wait) dseq) fits
  where
    candidate : IsCandidate a c x.message
    candidate = candidate_is a c x.message x.candidate

    may : IsDeliverable a c x.message
    may = deliverable a c x.message h.sound.messages k candidate

    fits : is_record (Deliver c.name seq count (plus a.moment c.config.ack_wait) dseq) ≡ true
    fits =
        let last : a.last < 2 ^ 62 = h.last in
        let high : x.message.seq ≤ a.last = may.high in
        let sent : c.dseq < 2 ^ 62 - 1 = candidate.number in
        let counted : count_of c x.message.seq ≤ c.dseq = may.count in
        let seq_is : seq ≡ x.message.seq = x.seq_is in
        let count_is : count ≡ count_of c x.message.seq + 1 = x.count_is in
        let dseq_is : dseq ≡ c.dseq + 1 = x.dseq_is in
        and_from _ _
        (and_from _ _ (and_from _ _ (and_from _ _ (consumer_name a.messages a.last c k) (number seq (omega arith))) (number count (omega arith))) (number (plus a.moment c.config.ack_wait) (omega arith)))
        (number dseq (omega arith))
allowed_sent a listening TooSmall own c after x h k = refl
allowed_sent a listening Emptied own c after x h k = refl

pub delivery_records : LawDeliveryRecords
delivery_records (Vacant i) new now listening d outs x h b = refl
delivery_records (Live s) new now listening d outs x h b =
    let k = numbered s h b in
    let a = numbered_at s now x.moment k in
    let y = x.delivered in
    together (time_effects s now) _ (allowed_time s now x.moment k)
    (together (sent_effects (advance s now) d.what (by_name (advance s now).consumers d.consumer)) _
    (subst (λ (c : Option Consumer). Allowed (sent_effects (advance s now) d.what c)) (sym y.found)
    (allowed_sent (advance s now) listening d.what y.own y.consumer y.after y.delivers a (sound_found s now listening d outs new y k.sound)))
    (allowed_removals ((advance s now).last + 1) [] (advance s now).messages (messages_of new) a.sound.messages (let q : (advance s now).last < 2 ^ 62 = a.last in omega arith)))

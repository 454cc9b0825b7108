-- An event or a delivery writes no record if and only if nothing of what outlives a crash changes.
use Rattle.std.proofs.Common.{◌≡◌, ℕ, ◌+◌, ◌^◌, Bool, true, false, cond, List, [], ◌∷◌, ◌++◌, map, length, max, refl, sym, ap, ◌∙◌, subst, arith}
use Rattle.std.specs.Prelude.{Option, Some, None, ◌==◌, All, option_map}
use Rattle.std.proofs.lemmas.List.{length-map}
use Rattle.std.proofs.lemmas.Bool.{and_parts}
use Rattle.js_base.specs.Bytes.{Bytes}
use Rattle.js_base.specs.declared.out.Out.{Out}
use Rattle.js_model.specs.declared.stream.Stream.{Stream}
use Rattle.js_model.specs.declared.stream.State.{State}
use Rattle.js_model.specs.declared.stream.State.TheVariants.{Vacant, Live}
use Rattle.js_model.specs.declared.consumer.Consumer.{Consumer}
use Rattle.js_model.specs.declared.event.What.{What}
use Rattle.js_model.specs.declared.event.What.TheVariants.{Make, Change, Drop as DropStream, Publish as PublishIt, Purge, Delete, MakeConsumer, DropConsumer, Ack as AckIt, Pull as PullIt, Tick, StreamInfo as AskStream, MessageGet, ConsumerInfo as AskConsumer, ConsumerNames, ConsumerList}
use Rattle.js_model.specs.declared.reply.Answer.{Answer}
use Rattle.js_model.specs.declared.reply.Reply.TheVariants.{Refused}
use Rattle.js_model.specs.declared.entry.Delivered.{Delivered}
use Rattle.js_model.specs.declared.entry.Delivered.TheVariants.{Sent, TooSmall, Emptied}
use Rattle.js_model.specs.declared.entry.Delivery.{Delivery}
use Rattle.js_model.specs.Streams.{seqs, confined, by_name, in_place_of, with_consumer}
use Rattle.js_model.specs.Lasting.{lasting, lasting_consumer}
use Rattle.js_model.specs.Advance.{advance, young, consumer_at}
use Rattle.js_model.specs.Consumers.{empty_stream}
use Rattle.js_model.specs.Refusals.{numbers_used_up}
use Rattle.js_model.specs.Retention.{kept}
use Rattle.js_model.specs.Deliver.{Delivers, IsDelivery}
use Rattle.js_model.specs.Events.{answered, settled, settled_state, stream_answer, vacant_answer, stream_made, vacantly}
use Rattle.js_model.proofs.Named.{some_is, placed_same, by_name-map, in_place_of-names}
use Rattle.js_model.proofs.Parts.{filter_part}
use Rattle.model_laws.specs.Bounds.{IsBoundedConsumer}
use Rattle.model_laws.proofs.Whole.{IsSoundStream, join}
use Rattle.model_laws.proofs.ConsumerFacts.{after_name}
use Rattle.model_laws.proofs.Facts.{IfLive, at_answer}
use Rattle.model_laws.proofs.Sounding.{IsProperWhat, sound_fact}
use Rattle.model_laws.proofs.SoundTime.{sound_time}
use Rattle.std.specs.Prelude.{⊤}
use Rattle.effects.specs.declared.durable.Body.{Body}
use Rattle.effects.specs.declared.durable.Durable.{Durable}
use Rattle.effects.specs.declared.effect.Effect.{Effect}
use Rattle.effects.specs.declared.effect.Effect.TheVariants.{MakeStream}
use Rattle.effects.specs.Durables.{body_of, durable_of}
use Rattle.effects.specs.Folding.{fold_all}
use Rattle.effects.specs.TimeEffects.{removals, time_effects}
use Rattle.effects.specs.Effects.{own_effects, skipped, settle_effects, live_effects, stream_effects, vacant_effects, event_effects, sent_effects, delivery_effects}
use Rattle.effects.specs.Laws.{Leads, LawNoRecords, LawNoRecordsSent}
use Rattle.effects.proofs.Agreeing.{map_twice}
use Rattle.effects.proofs.Removing.{leads_settled}
use Rattle.effects.proofs.Passing.{leads_time}
use Rattle.effects.proofs.Replacing.{lasting_names}
use Rattle.effects.proofs.Falling.{weight, weights, Falls, Even, falls_both, even_first, even_second, falls_only, falls_with, falls_at, no_effects_at, no_removals}
use Rattle.effects.proofs.Resting.{OwnRests, falling, other, own_rests, falls_settled, no_settle, body_is, live_vacant}
use Rattle.effects.proofs.Leading.{law_events, law_deliveries}

-- ---- what outlives a crash, and what a volume holds of it

durable_lasting : (s : State) → durable_of s ≡ durable_of (lasting s)
durable_lasting (Vacant i) = refl
durable_lasting (Live s) =
    ap (λ (cs : List Consumer). record { incarnation = s.incarnation; body = Some (record (body_of s) { consumers = cs }) }) (sym (map_twice lasting_consumer lasting_consumer s.consumers))

abbrev state_of : ℕ → Option Body → State
state_of i None = Vacant i
state_of i (Some b) = Live (record { incarnation = i; made = b.made; config = b.config; messages = b.messages; last = b.last; moment = b.moment; ids = b.ids; consumers = b.consumers })

held_lasting : (s : State) → state_of (durable_of s).incarnation (durable_of s).body ≡ lasting s
held_lasting (Vacant i) = refl
held_lasting (Live s) = refl

same_held : (old new : State) → lasting old ≡ lasting new → durable_of old ≡ durable_of new
same_held old new e = durable_lasting old ∙ ap durable_of e ∙ sym (durable_lasting new)

same_lasting : (old new : State) → durable_of old ≡ durable_of new → lasting old ≡ lasting new
same_lasting old new e = sym (held_lasting old) ∙ ap (λ (d : Durable). state_of d.incarnation d.body) e ∙ held_lasting new

-- without a record nothing changes
unchanged : (old new : State) (es : List Effect) → Leads old es new → es ≡ [] → durable_of old ≡ durable_of new
unchanged old new es h e = some_is (ap (λ l. fold_all l (Some (durable_of old))) (sym e) ∙ h)

weights_lasting : (cs : List Consumer) → weights (map lasting_consumer cs) ≡ weights cs
weights_lasting [] = refl
weights_lasting (c ∷ cs) = ap (λ n. weight c + n) (weights_lasting cs)

even_held : (s t : Stream) → body_of s ≡ body_of t → Even s t
even_held s t e = record {
  moment = ap (λ (b : Body). b.moment) e;
  messages = sym (ap (λ (b : Body). length b.messages) e);
  ids = sym (ap (λ (b : Body). length b.ids) e);
  held = sym (weights_lasting t.consumers) ∙ sym (ap (λ (b : Body). weights b.consumers) e) ∙ weights_lasting s.consumers;
}

-- ---- time

time_last : (s : Stream) (now : ℕ) → s.last ≡ (advance s now).last
unfolding advance
time_last s now = refl

time_length : (s : Stream) (now : ℕ) → length s.consumers ≡ length (advance s now).consumers
unfolding advance
time_length s now = sym (length-map (map (confined (seqs (young s (max s.moment now)))) s.consumers) (consumer_at (max s.moment now)) ∙ length-map s.consumers (confined (seqs (young s (max s.moment now)))))

falls_time : (s : Stream) (now : ℕ) → Falls s (advance s now)
unfolding advance
falls_time s now = falls_at s (max s.moment now) (omega arith)

no_time : (s : Stream) (now : ℕ) → Even s (advance s now) → time_effects s now ≡ []
unfolding advance
no_time s now e = no_effects_at s (max s.moment now) (omega arith) e

same_time : (s : Stream) (now : ℕ) → IsSoundStream s → All IsBoundedConsumer s.consumers → time_effects s now ≡ [] → body_of s ≡ body_of (advance s now)
same_time s now h b e = body_is s (advance s now) (unchanged (Live s) (Live (advance s now)) (time_effects s now) (leads_time s now h b) e)

-- ---- events

no_records_on : (s : Stream) (now : ℕ) (what : What) (room : Bool) → IsProperWhat what → IsSoundStream s → All IsBoundedConsumer s.consumers
    → durable_of (Live s) ≡ durable_of (settled_state (stream_answer (advance s now) what room).state) → event_effects (Live s) what now room ≡ []
no_records_on s now what room g h b q = go (own_rests (advance s now) what room (sound_time s now h))
  where
    a : Stream
    a = advance s now

    rests : (t : Stream) → (stream_answer a what room).state ≡ Live t → skipped a what room ≡ [] → Falls a t → (body_of a ≡ body_of t → own_effects a what room ≡ []) → event_effects (Live s) what now room ≡ []
    rests t e k f own =
        let is : durable_of (Live s) ≡ durable_of (Live (settled t)) = q ∙ ap (λ (st : State). durable_of (settled_state st)) e in
        let even : Even s (settled t) = even_held s (settled t) (body_is s (settled t) is) in
        let later : Falls a (settled t) = falls_both a t (settled t) f (falls_settled t) in
        let time : time_effects s now ≡ [] = no_time s now (even_first s a (settled t) (falls_time s now) later even) in
        let drops : settle_effects [] (Live t) ≡ [] = no_settle t (even_second a t (settled t) f (falls_settled t) (even_second s a (settled t) (falls_time s now) later even)) in
        let sound : IsSoundStream t = subst (IfLive ⊤ IsSoundStream) e (at_answer IsProperWhat ⊤ IsSoundStream sound_fact a what room g (sound_time s now h)) in
        let kept_so : body_of t ≡ body_of (settled t) = body_is t (settled t) (unchanged (Live t) (Live (settled t)) (settle_effects [] (Live t)) (leads_settled t sound) drops) in
        ap (λ l. l ++ live_effects a what room) time
        ∙ ap (λ l. l ++ settle_effects (skipped a what room) (stream_answer a what room).state) (own (sym (same_time s now h b time) ∙ body_is s (settled t) is ∙ sym kept_so))
        ∙ ap (λ l. settle_effects l (stream_answer a what room).state) k
        ∙ ap (settle_effects []) e
        ∙ drops

    go : OwnRests a what room → event_effects (Live s) what now room ≡ []
    go (falling t e k f own) = rests t e k f own
    go (other f) = absurd (f s (time_last s now) (time_length s now) q)

no_records_vacant : (i : ℕ) (what : What) (now : ℕ) (room : Bool) → durable_of (Vacant i) ≡ durable_of (settled_state (vacant_answer i what now room).state) → vacant_effects i what now room ≡ []
no_records_vacant i (Make reply config) now room q = go (i + 1 == 2 ^ 62) room q
  where
    answer : (b room : Bool) → Answer
    answer b room = cond b (vacantly (Refused numbers_used_up) i) (stream_made i config now room)

    go : (b room : Bool) → durable_of (Vacant i) ≡ durable_of (settled_state (answer b room).state) → cond b [] (stream_effects i config now room) ≡ []
    go true room w = refl
    go false false w = refl
    go false true w = absurd (live_vacant (settled (empty_stream (i + 1) config now)) i (sym w))
no_records_vacant i (Change reply config) now room q = refl
no_records_vacant i (DropStream reply) now room q = refl
no_records_vacant i (PublishIt p) now room q = refl
no_records_vacant i (Purge reply pattern below keep) now room q = refl
no_records_vacant i (Delete reply n) now room q = refl
no_records_vacant i (MakeConsumer reply name config update) now room q = refl
no_records_vacant i (DropConsumer reply name) now room q = refl
no_records_vacant i (AckIt reply ack) now room q = refl
no_records_vacant i (PullIt reply name ask) now room q = refl
no_records_vacant i Tick now room q = refl
no_records_vacant i (AskStream reply) now room q = refl
no_records_vacant i (MessageGet reply by) now room q = refl
no_records_vacant i (AskConsumer reply name) now room q = refl
no_records_vacant i (ConsumerNames reply offset) now room q = refl
no_records_vacant i (ConsumerList reply offset) now room q = refl

pub law_no_records : LawNoRecords
unfolding answered
law_no_records count (Vacant i) new e now reply outs x h b = (
  λ none. same_lasting (Vacant i) new (unchanged (Vacant i) new (event_effects (Vacant i) e.what now x.event.room) (law_events count (Vacant i) new e now reply outs x h b) none),
  λ same. no_records_vacant i e.what now x.event.room (same_held (Vacant i) new same ∙ sym (ap (λ (a : Answer). durable_of a.state) x.event.answers)),
)
law_no_records count (Live s) new e now reply outs x h b = (
  λ none. same_lasting (Live s) new (unchanged (Live s) new (event_effects (Live s) e.what now x.event.room) (law_events count (Live s) new e now reply outs x h b) none),
  λ same. no_records_on s now e.what x.event.room (and_parts _ _ x.proper).1 (join (Live s) h) b.each_consumer (same_held (Live s) new same ∙ sym (ap (λ (a : Answer). durable_of a.state) x.event.answers)),
)

-- ---- deliveries

dseq_in : Option Consumer → ℕ
dseq_in None = 0
dseq_in (Some c) = c.dseq

dseq_map : (f : Consumer → Consumer) → ((c : Consumer) → (f c).dseq ≡ c.dseq) → (o : Option Consumer) → dseq_in (option_map f o) ≡ dseq_in o
unfolding dseq_in
dseq_map f h None = refl
dseq_map f h (Some c) = h c

-- the consumer sequence that a volume holds
dseq_held : (s : Stream) (name : Bytes) → dseq_in (by_name (body_of s).consumers name) ≡ dseq_in (by_name s.consumers name)
dseq_held s name = ap dseq_in (by_name-map lasting_consumer lasting_names s.consumers name) ∙ dseq_map lasting_consumer (λ c. refl) (by_name s.consumers name)

dseq_confined : (ns : List ℕ) (cs : List Consumer) (name : Bytes) → dseq_in (by_name (map (confined ns) cs) name) ≡ dseq_in (by_name cs name)
dseq_confined ns cs name = ap dseq_in (by_name-map (confined ns) (record { name = λ c. refl }) cs name) ∙ dseq_map (confined ns) (λ c. refl) (by_name cs name)

dseq_time : (s : Stream) (now : ℕ) (name : Bytes) → dseq_in (by_name (advance s now).consumers name) ≡ dseq_in (by_name s.consumers name)
unfolding advance
dseq_time s now name =
    ap dseq_in (by_name-map (consumer_at (max s.moment now)) (record { name = λ c. refl }) (map (confined (seqs (young s (max s.moment now)))) s.consumers) name)
    ∙ dseq_map (consumer_at (max s.moment now)) (λ c. refl) (by_name (map (confined (seqs (young s (max s.moment now)))) s.consumers) name)
    ∙ dseq_confined (seqs (young s (max s.moment now))) s.consumers name

dseq_kept : (s : Stream) (name : Bytes) → dseq_in (by_name (kept s).consumers name) ≡ dseq_in (by_name s.consumers name)
unfolding kept
dseq_kept s name = dseq_confined _ s.consumers name

falls_kept : (s : Stream) → Falls s (kept s)
unfolding kept
falls_kept s = falls_only s (kept s).messages (filter_part _ s.messages)

no_kept : (s : Stream) → Even s (kept s) → removals [] s.messages (kept s).messages ≡ []
unfolding kept
no_kept s e = no_removals s.messages (kept s).messages (filter_part _ s.messages) e.messages

module _ (s : Stream) (now : ℕ) (listening : List Bytes) (name : Bytes) (c after : Consumer) (h : IsSoundStream s) (found : by_name (advance s now).consumers name ≡ Some c) where
  abbrev a : Stream
  a = advance s now

  abbrev changed : Stream
  changed = with_consumer (advance s now) after

  -- the next consumer sequence is another one
  never_sent : after.name ≡ c.name → after.dseq ≡ c.dseq + 1 → body_of s ≡ body_of (kept changed) → ⊥
  unfolding dseq_in
  never_sent n d q =
      let before : dseq_in (by_name s.consumers name) ≡ c.dseq = sym (dseq_time s now name) ∙ ap dseq_in found in
      let placed : by_name changed.consumers name ≡ Some after = by_name-map (in_place_of after) (in_place_of-names after) a.consumers name ∙ ap (option_map (in_place_of after)) found ∙ ap Some (placed_same after c (sym n)) in
      let later : dseq_in (by_name (kept changed).consumers name) ≡ after.dseq = dseq_kept changed name ∙ ap dseq_in placed in
      let same : dseq_in (by_name s.consumers name) ≡ dseq_in (by_name (kept changed).consumers name) = sym (dseq_held s name) ∙ ap (λ (b : Body). dseq_in (by_name b.consumers name)) q ∙ dseq_held (kept changed) name in
      let wrong : c.dseq ≡ c.dseq + 1 = sym before ∙ same ∙ later ∙ d in
      absurd (omega arith)

  -- a pull that ends leaves nothing
  no_pull_records : (what : Delivered) → sent_effects a what (Some c) ≡ [] → after.name ≡ c.name → weight after ≡ weight c → body_of s ≡ body_of (kept changed)
      → time_effects s now ++ (sent_effects a what (by_name a.consumers name) ++ removals [] a.messages (kept changed).messages) ≡ []
  no_pull_records what none n w q =
      let even = even_held s (kept changed) q in
      let first : Falls a changed = falls_with a name c after (sound_time s now h).ordered found n (omega (arith, w)) in
      let later : Falls a (kept changed) = falls_both a changed (kept changed) first (falls_kept changed) in
      let rest : Even a (kept changed) = even_second s a (kept changed) (falls_time s now) later even in
      ap (λ l. l ++ (sent_effects a what (by_name a.consumers name) ++ removals [] a.messages (kept changed).messages)) (no_time s now (even_first s a (kept changed) (falls_time s now) later even))
      ∙ ap (λ l. l ++ removals [] a.messages (kept changed).messages) (ap (sent_effects a what) found ∙ none)
      ∙ no_kept changed (even_second a changed (kept changed) first (falls_kept changed) rest)

  no_records_of : (what : Delivered) (outs : List Out) → Delivers a listening c what outs after → body_of s ≡ body_of (kept changed)
      → time_effects s now ++ (sent_effects a what (by_name a.consumers name) ++ removals [] a.messages (kept changed).messages) ≡ []
  no_records_of (Sent seq count dseq) outs x q = absurd (never_sent (after_name a listening c after (Sent seq count dseq) outs x) (ap (λ (d : Consumer). d.dseq) x.after_is) q)
  no_records_of TooSmall outs x q = no_pull_records TooSmall refl (after_name a listening c after TooSmall outs x) (ap weight x.after_is) q
  no_records_of Emptied outs x q = no_pull_records Emptied refl (after_name a listening c after Emptied outs x) (ap weight x.after_is) q

no_records_sent : (s : Stream) (new : State) (now : ℕ) (listening : List Bytes) (d : Delivery) (outs : List Out) → IsDelivery s now listening d outs new → IsSoundStream s → durable_of (Live s) ≡ durable_of new → delivery_effects (Live s) now d new ≡ []
no_records_sent s new now listening d outs x h q =
    ap (delivery_effects (Live s) now d) x.new_is
    ∙ no_records_of s now listening d.consumer x.consumer x.after h x.found d.what x.own x.delivers (body_is s (kept (with_consumer (advance s now) x.after)) (q ∙ ap durable_of x.new_is))

pub law_no_records_sent : LawNoRecordsSent
law_no_records_sent (Vacant i) new now listening d outs x h b = absurd x
law_no_records_sent (Live s) new now listening d outs x h b = (
  λ none. same_lasting (Live s) new (unchanged (Live s) new (delivery_effects (Live s) now d new) (law_deliveries (Live s) new now listening d outs x h b) none),
  λ same. no_records_sent s new now listening d outs x (join (Live s) h) (same_held (Live s) new same),
)

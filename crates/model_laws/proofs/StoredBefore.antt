-- What is sent to a consumer was stored before, and its filter matches it.
use Rattle.std.proofs.Common.{◌≡◌, ℕ, ◌+◌, Bool, true, false, ◌&&◌, cond, List, [], ◌∷◌, ◌++◌, map, max, length, refl, sym, ap, ◌∙◌, subst, ◌⊎◌, inl, inr}
use Rattle.std.specs.Prelude.{Option, Some, None, Contains, ◌==◌, ⊤, MatchBool}
use Rattle.std.specs.List.{last_or}
use Rattle.std.proofs.lemmas.Bool.{true≢false, eq-eqb, and_from}
use Rattle.js_base.specs.Bytes.{Bytes, same}
use Rattle.js_base.specs.declared.out.Out.{Out}
use Rattle.js_model.specs.declared.consumer_config.ConsumerConfig.{ConsumerConfig}
use Rattle.js_model.specs.declared.stream.Message.{Message}
use Rattle.js_model.specs.declared.stream.Stream.{Stream}
use Rattle.js_model.specs.declared.stream.State.{State}
use Rattle.js_model.specs.declared.stream.State.TheVariants.{Vacant, Live}
use Rattle.js_model.specs.declared.consumer.Consumer.{Consumer}
use Rattle.js_model.specs.declared.ack.Ask.{Ask}
use Rattle.js_model.specs.declared.event.Event.{Event}
use Rattle.js_model.specs.declared.event.Publish.{Publish}
use Rattle.js_model.specs.declared.event.What.{What}
use Rattle.js_model.specs.declared.event.What.TheVariants.{Make, Change, Drop as DropStream, Publish as PublishIt, Purge, Delete, MakeConsumer, DropConsumer, Ack as AckIt, Pull as PullIt, Tick, StreamInfo as AskStream, MessageGet, ConsumerInfo as AskConsumer, ConsumerNames, ConsumerList}
use Rattle.js_model.specs.declared.reply.Reply.{Reply}
use Rattle.js_model.specs.declared.reply.Verdict.{Verdict}
use Rattle.js_model.specs.declared.reply.Verdict.TheVariants.{Take, Duplicate as TakenBefore, Refused as RefusedBy}
use Rattle.js_model.specs.declared.entry.Delivered.{Delivered}
use Rattle.js_model.specs.declared.entry.Delivered.TheVariants.{Sent, TooSmall, Emptied}
use Rattle.js_model.specs.declared.entry.Delivery.{Delivery}
use Rattle.js_model.specs.declared.entry.PlaceEntry.{PlaceEntry}
use Rattle.js_model.specs.declared.entry.PlaceEntry.TheVariants.{Step, Deliver, Broken}
use Rattle.js_model.specs.declared.entry.Call.TheVariants.{Step as StepOf, Deliver as DeliverOf}
use Rattle.js_model.specs.declared.reply.Answer.{Answer}
use Rattle.js_model.specs.Lists.{IsPart, Between}
use Rattle.js_model.specs.Streams.{passes_filter}
use Rattle.js_model.specs.Advance.{advance, advance_outs, young}
use Rattle.js_model.specs.Verdict.{verdict, message_of}
use Rattle.js_model.specs.Pulls.{pulled, pulled_unless, pull_refusal}
use Rattle.js_model.specs.Events.{answered, published, with_id, IsEvent, settled_state, stream_answer}
use Rattle.js_model.specs.Deliver.{Delivers, IsDelivery, IsDelivered, candidates, delivery_out, sent_to}
use Rattle.js_model.specs.Runs.{RunFrom, new_messages}
use Rattle.model_laws.proofs.Whole.{IsSoundConsumer, IsSoundStream, IsSoundState}
use Rattle.model_laws.specs.OneConsumer.{drops}
use Rattle.model_laws.specs.Sendings.{sending_of, sending_to}
use Rattle.model_laws.specs.Order.{Stored, stored_of, stored_first, stored_by, was_stored, WereStored, BringsIt, IsBrought, IsBroughtTo, SendsStored}
use Rattle.js_model.proofs.Named.{same_is}
use Rattle.js_model.proofs.Members.{IsIn, here, there, in_part, in_append, in_cons, any_in, holds_of_one, contains_from_in}
use Rattle.model_laws.proofs.Facts.{IsStreamFact, IfLive, at_event, at_settled, at_delivery}
use Rattle.js_model.proofs.Candidates.{candidate_is}
use Rattle.js_model.proofs.Parts.{young_part}
use Rattle.model_laws.proofs.SoundTime.{sound_time}
use Rattle.model_laws.proofs.SoundSent.{deliverable}
use Rattle.model_laws.proofs.Sounding.{sound_step, sound_delivery, sound_found}
use Rattle.model_laws.proofs.ConsumerFacts.{IsKept, InStream, InState, in_event, in_delivery, its, acknowledged_entries}
use Rattle.model_laws.proofs.Consecutive.{last_push}

-- ---- known messages

-- each of the messages is known
record AreKnown (known : List Stored) (ms : List Message) : Type 0 where
  each : (m : Message) → IsIn m ms → IsIn (stored_of m) known

known_part : (known : List Stored) (ys xs : List Message) → IsPart ys xs → AreKnown known xs → AreKnown known ys
known_part known ys xs p h = record { each = λ m i. h.each m (in_part p i) }

not_publish : What → Bool
not_publish (PublishIt p) = false
not_publish _ = true

known_at_time : (known : List Stored) (s : Stream) (now : ℕ) → AreKnown known s.messages → AreKnown known (advance s now).messages
unfolding advance
known_at_time known s now h = known_part known (young s (max s.moment now)) s.messages (young_part s (max s.moment now)) h

known_fact : (known : List Stored) → IsStreamFact (λ w. not_publish w ≡ true) ⊤ (λ s. AreKnown known s.messages)
unfolding not_publish
known_fact known = record {
  change = record {
    gone = λ s reply g h. tt;
    only = λ s messages part h. known_part known messages s.messages part h;
    configured = λ s reply config g h. h;
    stored = λ s p room g e h. absurd (true≢false (sym g));
    made = λ s reply name config g e r h. h;
    removed = λ s reply name c g e h. h;
    acked = λ s reply ack c g e q h. h;
    pulled = λ s reply name ask c g e h. h;
  };
  empty = λ i now reply config g v. record { each = λ m i. elim i [ ] };
  time = known_at_time known;
}

-- a publish makes its message known
known_published : (known : List Stored) (a : Stream) (p : Publish) (v : Verdict) → AreKnown known a.messages → IfLive ⊤ (λ s. AreKnown (stored_by (PublishIt p) (published a p v).reply ++ known) s.messages) (published a p v).state
known_published known a p Take h = go p.wants.id
  where
    new : Stored
    new = stored_of (message_of a p)

    each : (m : Message) → IsIn m (a.messages ++ message_of a p ∷ []) → IsIn (stored_of m) (new ∷ known)
    each m i = cases (in_append a.messages (message_of a p ∷ []) i)
      where
        cases : IsIn m a.messages ⊎ IsIn m (message_of a p ∷ []) → IsIn (stored_of m) (new ∷ known)
        cases (inl w) = there (h.each m w)
        cases (inr w) = one (in_cons w)
          where
            one : (message_of a p ≡ m) ⊎ IsIn m [] → IsIn (stored_of m) (new ∷ known)
            one (inl e) = subst (λ (z : Message). IsIn (stored_of z) (new ∷ known)) e here
            one (inr e) = elim e [ ]

    go : (id : Bytes) → AreKnown (new ∷ known) (with_id (record a { messages = a.messages ++ message_of a p ∷ []; last = a.last + 1 }) id).messages
    go [] = record { each = each }
    go (byte ∷ more) = record { each = each }
known_published known a p (TakenBefore n) h = h
known_published known a p (RefusedBy e) h = h

abbrev StateKnown : List Stored → State → Type 0
StateKnown known s = IfLive ⊤ (λ t. AreKnown known t.messages) s

-- an event is a publish, or stores nothing
publish_or_not : (w : What) → ((p : Publish) × (w ≡ PublishIt p)) ⊎ ((not_publish w ≡ true) × ((reply : Reply) → stored_by w reply ≡ []))
unfolding not_publish
publish_or_not (PublishIt p) = inl (p, refl)
publish_or_not (Make reply config) = inr (refl, λ r. refl)
publish_or_not (Change reply config) = inr (refl, λ r. refl)
publish_or_not (DropStream reply) = inr (refl, λ r. refl)
publish_or_not (Purge reply pattern below keep) = inr (refl, λ r. refl)
publish_or_not (Delete reply k) = inr (refl, λ r. refl)
publish_or_not (MakeConsumer reply name config update) = inr (refl, λ r. refl)
publish_or_not (DropConsumer reply name) = inr (refl, λ r. refl)
publish_or_not (AckIt reply ack) = inr (refl, λ r. refl)
publish_or_not (PullIt reply name ask) = inr (refl, λ r. refl)
publish_or_not Tick = inr (refl, λ r. refl)
publish_or_not (AskStream reply) = inr (refl, λ r. refl)
publish_or_not (MessageGet reply by) = inr (refl, λ r. refl)
publish_or_not (AskConsumer reply name) = inr (refl, λ r. refl)
publish_or_not (ConsumerNames reply offset) = inr (refl, λ r. refl)
publish_or_not (ConsumerList reply offset) = inr (refl, λ r. refl)

by_publish : (known : List Stored) (s : Stream) (new : State) (e : Event) (now : ℕ) (reply : Reply) (outs : List Out) (p : Publish) → e.what ≡ PublishIt p → IsEvent (Live s) e now reply outs new → AreKnown known s.messages → StateKnown (stored_by (PublishIt p) reply ++ known) new
unfolding answered
by_publish known s new e now reply outs p q x h =
    subst (λ (r : Reply). StateKnown (stored_by (PublishIt p) r ++ known) new) reply_is
    (subst (StateKnown (stored_by (PublishIt p) (published (advance s now) p (verdict (advance s now) p x.room)).reply ++ known)) new_is
    (settle (stored_by (PublishIt p) (published (advance s now) p (verdict (advance s now) p x.room)).reply ++ known) (published (advance s now) p (verdict (advance s now) p x.room)).state
    (known_published known (advance s now) p (verdict (advance s now) p x.room) (known_at_time known s now h))))
  where
    settle : (l : List Stored) (st : State) → StateKnown l st → StateKnown l (settled_state st)
    settle l st k = at_settled (λ w. not_publish w ≡ true) ⊤ (λ t. AreKnown l t.messages) (known_fact l) st k

    reply_is : (published (advance s now) p (verdict (advance s now) p x.room)).reply ≡ reply
    reply_is = subst (λ (w : What). (stream_answer (advance s now) w x.room).reply ≡ reply) q (ap (λ (a : Answer). a.reply) x.answers)

    new_is : settled_state (published (advance s now) p (verdict (advance s now) p x.room)).state ≡ new
    new_is = subst (λ (w : What). settled_state (stream_answer (advance s now) w x.room).state ≡ new) q (ap (λ (a : Answer). a.state) x.answers)

known_event : (known : List Stored) (s : Stream) (new : State) (e : Event) (now : ℕ) (reply : Reply) (outs : List Out) → IsEvent (Live s) e now reply outs new → AreKnown known s.messages → StateKnown (stored_by e.what reply ++ known) new
known_event known s new e now reply outs x h = go (publish_or_not e.what)
  where
    go : ((p : Publish) × (e.what ≡ PublishIt p)) ⊎ ((not_publish e.what ≡ true) × ((reply : Reply) → stored_by e.what reply ≡ [])) → StateKnown (stored_by e.what reply ++ known) new
    go (inl w) = subst (λ (v : What). StateKnown (stored_by v reply ++ known) new) (sym w.1) (by_publish known s new e now reply outs w.0 w.1 x h)
    go (inr w) = subst (λ (l : List Stored). StateKnown (l ++ known) new) (sym (w.1 reply)) (at_event (λ w. not_publish w ≡ true) ⊤ (λ s. AreKnown known s.messages) (known_fact known) (Live s) new e now reply outs x w.0 h)

known_delivery : (known : List Stored) (old new : State) (now : ℕ) (listening : List Bytes) (d : Delivery) (outs : List Out) → IsDelivered old now listening d outs new → StateKnown known old → StateKnown known new
known_delivery known old new now listening d outs x h = at_delivery (λ w. not_publish w ≡ true) ⊤ (λ s. AreKnown known s.messages) (known_fact known) (λ s c k. k) old new now listening d outs x h

-- ---- the filter stays

pub config_pulled : (now : ℕ) (reply : Option Bytes) (ask : Option Ask) (c : Consumer) → (pulled now reply ask c).config ≡ c.config
config_pulled now None ask c = refl
config_pulled now (Some reply) ask c = go ask (pull_refusal c ask)
  where
    go : (ask : Option Ask) (block : Option Bytes) → (pulled_unless block now reply ask c).config ≡ c.config
    go None None = refl
    go (Some ask) None = refl
    go ask (Some block) = refl

abbrev pub HasConfig : ConsumerConfig → Consumer → Type 0
HasConfig config c = c.config ≡ config

-- a consumer keeps its configuration
pub config_kept : (config : ConsumerConfig) → IsKept (HasConfig config)
config_kept config = record {
  confined = λ ns c h. h;
  time = λ now c h. h;
  acknowledged = λ now n kind c h. ap (λ (d : Consumer). d.config) (acknowledged_entries now n kind c).rest ∙ h;
  pulled = λ now reply ask c h. config_pulled now reply ask c ∙ h;
}

pub config_after : (a : Stream) (listening : List Bytes) (c after : Consumer) (d : Delivered) (outs : List Out) → Delivers a listening c d outs after → after.config ≡ c.config
config_after a listening c after (Sent seq count dseq) outs x = ap (λ (z : Consumer). z.config) x.after_is
config_after a listening c after TooSmall outs x = ap (λ (z : Consumer). z.config) x.after_is
config_after a listening c after Emptied outs x = ap (λ (z : Consumer). z.config) x.after_is

pub config_delivery : (name : Bytes) (config : ConsumerConfig) (s : Stream) (new : State) (now : ℕ) (listening : List Bytes) (d : Delivery) (outs : List Out) → IsDelivery s now listening d outs new → InStream name (HasConfig config) s → InState name (HasConfig config) new
config_delivery name config s new now listening d outs x h =
    in_delivery name (HasConfig config) (HasConfig config) (config_kept config) (config_kept config) s now listening d outs new x
    (λ e p. config_after (advance s now) listening x.consumer x.after d.what x.own x.delivers ∙ p) (λ e c p. p) h

-- ---- deliveries

module _ (name : Bytes) (config : ConsumerConfig) (known : List Stored) where
  -- the message of a delivery is known, and the filter matches it
  sent_known : (a : Stream) (c : Consumer) (m : Message) → Contains (candidates a c) m → Between (λ m. m.seq) 1 (a.last + 1) a.messages → IsSoundConsumer a.messages a.last c → c.config ≡ config → AreKnown known a.messages
      → IsIn (stored_of m) known × (passes_filter config.filter_subject m.subject ≡ true)
  sent_known a c m candidate b k e h =
      let w = candidate_is a c m candidate in (
        h.each m w.stored,
        subst (λ (g : ConsumerConfig). passes_filter g.filter_subject m.subject ≡ true) e (holds_of_one (λ m. m.seq) (λ m. passes_filter c.config.filter_subject m.subject) 1 (a.last + 1) m a.messages b w.stored (deliverable a c m b k w).stored),
      )

  own_stored : (a : Stream) (listening : List Bytes) (c after : Consumer) (d : Delivered) (outs : List Out) → Delivers a listening c d outs after → Between (λ m. m.seq) 1 (a.last + 1) a.messages → IsSoundConsumer a.messages a.last c → c.config ≡ config → AreKnown known a.messages
      → WereStored config.filter_subject known (sending_of d)
  own_stored a listening c after (Sent seq count dseq) outs x b k e h =
      let m = x.message in
      let w = sent_known a c m x.candidate b k e h in
      (subst (λ (n : ℕ). was_stored config.filter_subject known n ≡ true) (sym x.seq_is) (any_in (λ x. x.seq == m.seq && passes_filter config.filter_subject x.subject) (stored_of m) known w.0 (and_from _ _ (eq-eqb m.seq m.seq refl) w.1)), tt)
  own_stored a listening c after TooSmall outs x b k e h = tt
  own_stored a listening c after Emptied outs x b k e h = tt

  own_brought : (a : Stream) (listening : List Bytes) (c after : Consumer) (d : Delivered) (before own : List Out) → Delivers a listening c d own after → Between (λ m. m.seq) 1 (a.last + 1) a.messages → IsSoundConsumer a.messages a.last c → c.config ≡ config → AreKnown known a.messages
      → IsBrought config.filter_subject known d (before ++ own)
  own_brought a listening c after (Sent seq count dseq) before own x b k e h =
      let m = x.message in
      let w = sent_known a c m x.candidate b k e h in
      let out = delivery_out a c (sent_to a.moment m c) m count in
      subst (BringsIt config.filter_subject known seq) (sym (ap (λ (l : List Out). last_or None (before ++ l)) x.outs_are ∙ last_push None before out))
      (record { message = stored_of m; known = contains_from_in known (stored_of m) w.0; seq = sym x.seq_is; passes = w.1; subject = refl; headers = refl; payload = refl })
  own_brought a listening c after TooSmall before own x b k e h = tt
  own_brought a listening c after Emptied before own x b k e h = tt

  delivery_stored : (s : Stream) (new : State) (now : ℕ) (listening : List Bytes) (d : Delivery) (outs : List Out) → IsDelivery s now listening d outs new → IsSoundStream s → InStream name (HasConfig config) s → AreKnown known s.messages
      → WereStored config.filter_subject known (sending_to name d)
  delivery_stored s new now listening d outs x sound h k = go (same d.consumer name) refl
    where
      go : (b : Bool) → same d.consumer name ≡ b → WereStored config.filter_subject known (cond b (sending_of d.what) [])
      go true e =
          own_stored (advance s now) listening x.consumer x.after d.what x.own x.delivers (sound_time s now sound).messages (sound_found s now listening d outs new x sound)
          (its name (HasConfig config) (HasConfig config) (config_kept config) (config_kept config) s now listening d outs new x (same_is d.consumer name e) h) (known_at_time known s now k)
      go false e = tt

  delivery_brought : (s : Stream) (new : State) (now : ℕ) (listening : List Bytes) (d : Delivery) (outs : List Out) → IsDelivery s now listening d outs new → IsSoundStream s → InStream name (HasConfig config) s → AreKnown known s.messages
      → IsBroughtTo name config.filter_subject known d outs
  delivery_brought s new now listening d outs x sound h k = go (same d.consumer name) refl
    where
      go : (b : Bool) → same d.consumer name ≡ b → MatchBool b (IsBrought config.filter_subject known d.what outs) ⊤
      go true e =
          subst (IsBrought config.filter_subject known d.what) (sym x.outs_are)
          (own_brought (advance s now) listening x.consumer x.after d.what (advance_outs s now) x.own x.delivers (sound_time s now sound).messages (sound_found s now listening d outs new x sound)
          (its name (HasConfig config) (HasConfig config) (config_kept config) (config_kept config) s now listening d outs new x (same_is d.consumer name e) h) (known_at_time known s now k))
      go false e = tt

-- ---- the induction

sends_stored : (name : Bytes) (config : ConsumerConfig) (known : List Stored) (count : ℕ) (old : State) (entries : List PlaceEntry) (new : State) → IsSoundState old → InState name (HasConfig config) old → StateKnown known old → RunFrom count old entries new
    → SendsStored name config.filter_subject known entries
sends_stored name config known count old [] new s h k r = tt
sends_stored name config known count (Vacant i) (entry ∷ entries) new s h k r = absurd h
sends_stored name config known count (Live t) (Step seat e now reply outs unsaid ∷ entries) new s h k (mid, x, rest) =
    unless_dropped (drops name e.what) refl
    (λ g. sends_stored name config (stored_by e.what reply ++ known) (count + length (new_messages (Live t) mid)) mid entries new (sound_step count (Live t) mid e now reply outs x s)
    (in_event name (HasConfig config) (config_kept config) (Live t) mid e now reply outs x.event g h) (known_event known t mid e now reply outs x.event k) rest)
  where
    unless_dropped : (b : Bool) → drops name e.what ≡ b → (drops name e.what ≡ false → SendsStored name config.filter_subject (stored_by e.what reply ++ known) entries) → MatchBool b ⊤ (SendsStored name config.filter_subject (stored_by e.what reply ++ known) entries)
    unless_dropped true q f = tt
    unless_dropped false q f = f q
sends_stored name config known count (Live t) (Deliver seat now listening d outs ∷ entries) new s h k (mid, x, rest) = (
  delivery_brought name config known t mid now listening d outs x.delivered s h k,
  sends_stored name config known (count + length (new_messages (Live t) mid)) mid entries new (sound_delivery (Live t) mid now listening d outs x.delivered s)
      (config_delivery name config t mid now listening d outs x.delivered h) (known_delivery known (Live t) mid now listening d outs x.delivered k) rest,
)
sends_stored name config known count (Live t) (Broken seat now (StepOf e) ∷ entries) new s h k r = tt
sends_stored name config known count (Live t) (Broken seat now (DeliverOf listening d) ∷ []) new s h k (outs, x) = delivery_stored name config known t new now listening d outs x.delivered s h k
sends_stored name config known count (Live t) (Broken seat now (DeliverOf listening d) ∷ entry ∷ entries) new s h k r = absurd r

-- the messages that stand at first are known
known_first : (s : State) → StateKnown (stored_first s) s
known_first (Vacant i) = tt
known_first (Live t) = record { each = λ m i. in_map m t.messages i }
  where
    in_map : (m : Message) (ms : List Message) → IsIn m ms → IsIn (stored_of m) (map stored_of ms)
    in_map m [] i = elim i [ ]
    in_map m (x ∷ ms) here = here
    in_map m (x ∷ ms) (there i) = there (in_map m ms i)

pub stored_before : (name : Bytes) (count : ℕ) (old : State) (entries : List PlaceEntry) (new : State) (c : Consumer) → IsSoundState old → InState name (HasConfig c.config) old → RunFrom count old entries new → SendsStored name c.config.filter_subject (stored_first old) entries
stored_before name count old entries new c s h r = sends_stored name c.config (stored_first old) count old entries new s h (known_first old) r

-- A consumer that stands after a run and not before it was made within the run.
use Rattle.std.proofs.Common.{◌≡◌, ℕ, ◌+◌, ◌^◌, Bool, true, false, not, cond, List, [], ◌∷◌, ◌++◌, length, map, refl, sym, ap, ◌∙◌, subst, ◌⊎◌, inl, inr}
use Rattle.std.specs.Prelude.{Option, Some, None, option_map, filter, ◌==◌, ⊤}
use Rattle.std.proofs.lemmas.Bool.{true≢false}
use Rattle.js_base.specs.Bytes.{Bytes, same}
use Rattle.js_base.specs.declared.out.Out.{Out}
use Rattle.js_base.specs.declared.out.ApiError.{ApiError}
use Rattle.js_model.specs.declared.consumer_config.ConsumerConfig.{ConsumerConfig}
use Rattle.js_model.specs.declared.stream.Stream.{Stream}
use Rattle.js_model.specs.declared.stream.State.{State}
use Rattle.js_model.specs.declared.stream.State.TheVariants.{Vacant, Live}
use Rattle.js_model.specs.declared.consumer.Consumer.{Consumer}
use Rattle.js_model.specs.declared.event.Event.{Event}
use Rattle.js_model.specs.declared.event.Publish.{Publish}
use Rattle.js_model.specs.declared.event.What.{What}
use Rattle.js_model.specs.declared.event.What.TheVariants.{Make, Change, Drop as DropStream, Publish as PublishIt, Purge, Delete, MakeConsumer, DropConsumer, Ack as AckIt, Pull as PullIt, Tick, StreamInfo as AskStream, MessageGet, ConsumerInfo as AskConsumer, ConsumerNames, ConsumerList}
use Rattle.js_model.specs.declared.reply.ConsumerInfo.{ConsumerInfo}
use Rattle.js_model.specs.declared.reply.Reply.{Reply}
use Rattle.js_model.specs.declared.reply.Reply.TheVariants.{ConsumerInfo as ConsumerTold, Refused}
use Rattle.js_model.specs.declared.reply.Answer.{Answer}
use Rattle.js_model.specs.declared.entry.Delivery.{Delivery}
use Rattle.js_model.specs.declared.entry.PlaceEntry.{PlaceEntry}
use Rattle.js_model.specs.declared.entry.PlaceEntry.TheVariants.{Step, Deliver, Broken}
use Rattle.js_model.specs.declared.entry.Call.TheVariants.{Step as StepOf, Deliver as DeliverOf}
use Rattle.js_model.specs.Streams.{by_name, confined, seqs, with_consumer, in_place_of}
use Rattle.js_model.specs.Refusals.{first_refusal, numbers_used_up}
use Rattle.js_model.specs.Advance.{advance}
use Rattle.js_model.specs.Verdict.{message_of}
use Rattle.js_model.specs.Consumers.{empty_stream, is_before, new_consumer, with_new, making_checks}
use Rattle.js_model.specs.Events.{answered, stream_answer, vacant_answer, vacantly, stream_made, settled, settled_state, with_message, with_id, told_of, consumer_made, or_no_room, consumer_asked, consumer_dropped, IsEvent}
use Rattle.js_model.specs.Deliver.{IsDelivered}
use Rattle.js_model.specs.Runs.{RunFrom, IsStep, IsDeliverStep, new_messages}
use Rattle.model_laws.specs.OneConsumer.{drops, consumer_of}
use Rattle.model_laws.specs.Repeats.{EachEvent}
use Rattle.model_laws.specs.Order.{Makes}
use Rattle.model_laws.specs.MadeWithin.{IsEntryOf, IsMadeWithin}
use Rattle.model_laws.specs.Laws.{LawMade}
use Rattle.js_model.proofs.Named.{none_some, same_is, by_name-map, found_named, in_place_of-names}
use Rattle.model_laws.proofs.Whole.{IsSoundState, join, split}
use Rattle.model_laws.proofs.Facts.{IsChangeFact, IfLive, change_time, change_kept, change_settled}
use Rattle.model_laws.proofs.Making.{absent_at_time}
use Rattle.model_laws.proofs.Sounding.{sound_step, sound_delivery}
use Rattle.model_laws.proofs.Ordering.{law_start}

-- the event asks for a consumer of this name
abbrev makes : Bytes → What → Bool
makes name (MakeConsumer asked other config update) = same other name
makes name (Make asked config) = false
makes name (Change asked config) = false
makes name (DropStream asked) = false
makes name (PublishIt p) = false
makes name (Purge asked pattern below keep) = false
makes name (Delete asked n) = false
makes name (DropConsumer asked other) = false
makes name (AckIt asked ack) = false
makes name (PullIt asked other ask) = false
makes name Tick = false
makes name (AskStream asked) = false
makes name (MessageGet asked by) = false
makes name (AskConsumer asked other) = false
makes name (ConsumerNames asked offset) = false
makes name (ConsumerList asked offset) = false

-- ---- a name that is not there

module _ (name : Bytes) where
  abbrev IsAbsent : Stream → Type 0
  IsAbsent s = by_name s.consumers name ≡ None

  absent_map : (f : Consumer → Consumer) → ((c : Consumer) → (f c).name ≡ c.name) → (cs : List Consumer) → by_name cs name ≡ None → by_name (map f cs) name ≡ None
  absent_map f n cs h = by_name-map f (record { name = n }) cs name ∙ ap (option_map f) h

  absent_filter : (t : Consumer → Bool) (cs : List Consumer) → by_name cs name ≡ None → by_name (filter t cs) name ≡ None
  absent_filter t [] h = refl
  absent_filter t (c ∷ cs) h = go (t c) (same c.name name) refl h (absent_filter t cs)
    where
      go : (a b : Bool) → same c.name name ≡ b → cond b (Some c) (by_name cs name) ≡ None → (by_name cs name ≡ None → by_name (filter t cs) name ≡ None) → by_name (cond a (c ∷ filter t cs) (filter t cs)) name ≡ None
      go a true e k f = absurd (none_some (sym k))
      go true false e k f = ap (λ (b : Bool). cond b (Some c) (by_name (filter t cs) name)) e ∙ f k
      go false false e k f = f k

  -- another one is made
  absent_with_new : (cs : List Consumer) (new : Consumer) → same new.name name ≡ false → by_name cs name ≡ None → by_name (with_new cs new) name ≡ None
  absent_with_new [] new h e = ap (λ (b : Bool). cond b (Some new) None) h
  absent_with_new (c ∷ cs) new h e = go (is_before c.name new.name) (same c.name name) refl e (absent_with_new cs new h)
    where
      go : (a b : Bool) → same c.name name ≡ b → cond b (Some c) (by_name cs name) ≡ None → (by_name cs name ≡ None → by_name (with_new cs new) name ≡ None) → by_name (cond a (c ∷ with_new cs new) (new ∷ c ∷ cs)) name ≡ None
      go a true q k f = absurd (none_some (sym k))
      go true false q k f = ap (λ (b : Bool). cond b (Some c) (by_name (with_new cs new) name)) q ∙ f k
      go false false q k f = ap (λ (b : Bool). cond b (Some new) (by_name (c ∷ cs) name)) h ∙ (ap (λ (b : Bool). cond b (Some c) (by_name cs name)) q ∙ k)

  absent_stored : (s : Stream) (p : Publish) → IsAbsent s → IsAbsent (with_message s p)
  absent_stored s p h = go p.wants.id
    where
      go : (id : Bytes) → IsAbsent (with_id (record s { messages = s.messages ++ message_of s p ∷ []; last = s.last + 1 }) id)
      go [] = h
      go (byte ∷ more) = h

  absent_change : IsChangeFact (λ w. makes name w ≡ false) ⊤ IsAbsent
  absent_change = record {
    gone = λ s reply g h. tt;
    only = λ s messages part h. absent_map (confined (seqs messages)) (λ c. refl) s.consumers h;
    configured = λ s reply config g h. h;
    stored = λ s p room g e h. absent_stored s p h;
    made = λ s reply other config g e r h. absent_with_new s.consumers (new_consumer s other config) g h;
    removed = λ s reply other c g e h. absent_filter _ s.consumers h;
    acked = λ s reply ack c g e q h. absent_map _ (λ d. (in_place_of-names _).name d) s.consumers h;
    pulled = λ s reply other ask c g e h. absent_map _ (λ d. (in_place_of-names _).name d) s.consumers h;
  }

  -- the state has no consumer of the name
  abbrev IsAbsentIn : State → Type 0
  IsAbsentIn s = IfLive ⊤ IsAbsent s

  absent_of : (s : State) → consumer_of name s ≡ None → IsAbsentIn s
  absent_of (Vacant i) e = tt
  absent_of (Live s) e = e

  none_of : (s : State) → IsAbsentIn s → consumer_of name s ≡ None
  none_of (Vacant i) h = refl
  none_of (Live s) h = h

  absent_settled : (s : State) → IsAbsentIn s → IsAbsentIn (settled_state s)
  absent_settled s h = change_settled (λ w. makes name w ≡ false) ⊤ IsAbsent absent_change s h

  absent_cond : (b : Bool) (a c : Answer) → IsAbsentIn a.state → IsAbsentIn c.state → IsAbsentIn (cond b a c).state
  absent_cond true a c h k = h
  absent_cond false a c h k = k

  absent_vacant : (i : ℕ) (what : What) (now : ℕ) (room : Bool) → IsAbsentIn (vacant_answer i what now room).state
  absent_vacant i (Make reply config) now room = absent_cond (i + 1 == 2 ^ 62) (vacantly (Refused numbers_used_up) i) (stream_made i config now room) tt (made room)
    where
      made : (room : Bool) → IsAbsentIn (stream_made i config now room).state
      made true = refl
      made false = tt
  absent_vacant i _ now room = tt

  -- a stream that is made has no consumer
  none_yet : (i : ℕ) (new : State) (e : Event) (now : ℕ) (reply : Reply) (outs : List Out) → IsEvent (Vacant i) e now reply outs new → IsAbsentIn new
  unfolding answered
  none_yet i new e now reply outs x = subst IsAbsentIn (ap (λ (a : Answer). a.state) x.answers) (absent_settled (vacant_answer i e.what now x.room).state (absent_vacant i e.what now x.room))

  -- only an event that asks for it makes it
  absent_event : (old new : State) (e : Event) (now : ℕ) (reply : Reply) (outs : List Out) → IsEvent old e now reply outs new → makes name e.what ≡ false → IsAbsentIn old → IsAbsentIn new
  unfolding answered
  absent_event (Vacant i) new e now reply outs x g h = none_yet i new e now reply outs x
  absent_event (Live s) new e now reply outs x g h = change_time (λ w. makes name w ≡ false) ⊤ IsAbsent absent_change s new e now reply outs x g (absent_at_time s now name h)

  absent_delivery : (old new : State) (now : ℕ) (listening : List Bytes) (d : Delivery) (outs : List Out) → IsDelivered old now listening d outs new → IsAbsentIn old → IsAbsentIn new
  absent_delivery (Vacant i) new now listening d outs x h = absurd x
  absent_delivery (Live s) new now listening d outs x h =
      subst IsAbsentIn (sym x.new_is)
      (change_kept (λ w. makes name w ≡ false) ⊤ IsAbsent absent_change (with_consumer (advance s now) x.after) (absent_map (in_place_of x.after) (λ c. (in_place_of-names x.after).name c) (advance s now).consumers (absent_at_time s now name h)))

  -- ---- a name that is dropped

  removed_none : (cs : List Consumer) → by_name (filter (λ d. not (same d.name name)) cs) name ≡ None
  removed_none [] = refl
  removed_none (c ∷ cs) = go (same c.name name) refl (removed_none cs)
    where
      rest : List Consumer
      rest = filter (λ d. not (same d.name name)) cs

      go : (b : Bool) → same c.name name ≡ b → by_name rest name ≡ None → by_name (cond (not b) (c ∷ rest) rest) name ≡ None
      go true e h = h
      go false e h = ap (λ (b : Bool). cond b (Some c) (by_name rest name)) e ∙ h

  dropped_none : (a : Stream) (other : Bytes) (o : Option Consumer) → name ≡ other → by_name a.consumers other ≡ o → IsAbsentIn (consumer_dropped a o).state
  dropped_none a other None q e = subst (λ (n : Bytes). by_name a.consumers n ≡ None) (sym q) e
  dropped_none a other (Some c) q e = subst (λ (n : Bytes). by_name (filter (λ d. not (same d.name n)) a.consumers) name ≡ None) (q ∙ sym (found_named a.consumers other c e)) (removed_none a.consumers)

  answer_dropped : (a : Stream) (what : What) (room : Bool) → drops name what ≡ true → IsAbsentIn (stream_answer a what room).state
  answer_dropped a (DropStream reply) room g = tt
  answer_dropped a (DropConsumer reply other) room g = dropped_none a other (by_name a.consumers other) (same_is name other g) refl
  answer_dropped a (Make asked config) room g = absurd (true≢false (sym g))
  answer_dropped a (Change asked config) room g = absurd (true≢false (sym g))
  answer_dropped a (PublishIt p) room g = absurd (true≢false (sym g))
  answer_dropped a (Purge asked pattern below keep) room g = absurd (true≢false (sym g))
  answer_dropped a (Delete asked n) room g = absurd (true≢false (sym g))
  answer_dropped a (MakeConsumer asked other config update) room g = absurd (true≢false (sym g))
  answer_dropped a (AckIt asked ack) room g = absurd (true≢false (sym g))
  answer_dropped a (PullIt asked other ask) room g = absurd (true≢false (sym g))
  answer_dropped a Tick room g = absurd (true≢false (sym g))
  answer_dropped a (AskStream asked) room g = absurd (true≢false (sym g))
  answer_dropped a (MessageGet asked by) room g = absurd (true≢false (sym g))
  answer_dropped a (AskConsumer asked other) room g = absurd (true≢false (sym g))
  answer_dropped a (ConsumerNames asked offset) room g = absurd (true≢false (sym g))
  answer_dropped a (ConsumerList asked offset) room g = absurd (true≢false (sym g))

  event_dropped : (old new : State) (e : Event) (now : ℕ) (reply : Reply) (outs : List Out) → IsEvent old e now reply outs new → drops name e.what ≡ true → IsAbsentIn new
  unfolding answered
  event_dropped (Vacant i) new e now reply outs x g = none_yet i new e now reply outs x
  event_dropped (Live s) new e now reply outs x g = subst IsAbsentIn (ap (λ (a : Answer). a.state) x.answers) (absent_settled (stream_answer (advance s now) e.what x.room).state (answer_dropped (advance s now) e.what x.room g))

  -- ---- a name that is made

  making_or_not : (w : What) → ((asked : Option Bytes) × (config : ConsumerConfig) × (update : Bool) × (w ≡ MakeConsumer asked name config update)) ⊎ (makes name w ≡ false)
  making_or_not (MakeConsumer asked other config update) = go (same other name) refl
    where
      go : (b : Bool) → same other name ≡ b → ((a : Option Bytes) × (c : ConsumerConfig) × (u : Bool) × (MakeConsumer asked other config update ≡ MakeConsumer a name c u)) ⊎ (same other name ≡ false)
      go true q = inl (asked, config, update, ap (λ (n : Bytes). MakeConsumer asked n config update) (same_is other name q))
      go false q = inr q
  making_or_not (Make asked config) = inr refl
  making_or_not (Change asked config) = inr refl
  making_or_not (DropStream asked) = inr refl
  making_or_not (PublishIt p) = inr refl
  making_or_not (Purge asked pattern below keep) = inr refl
  making_or_not (Delete asked n) = inr refl
  making_or_not (DropConsumer asked other) = inr refl
  making_or_not (AckIt asked ack) = inr refl
  making_or_not (PullIt asked other ask) = inr refl
  making_or_not Tick = inr refl
  making_or_not (AskStream asked) = inr refl
  making_or_not (MessageGet asked by) = inr refl
  making_or_not (AskConsumer asked other) = inr refl
  making_or_not (ConsumerNames asked offset) = inr refl
  making_or_not (ConsumerList asked offset) = inr refl

  told_made : (new : Stream) (c : Consumer) (o : Option Consumer) → by_name (settled new).consumers name ≡ o → consumer_of name (settled_state (told_of new o).state) ≡ Some c → (info : ConsumerInfo) × ((told_of new o).reply ≡ ConsumerTold info)
  told_made new c None q k = absurd (none_some (sym q ∙ k))
  told_made new c (Some d) q k = (_, refl)

  -- if a consumer stands that was asked for, its making was told
  asked_told : (a : Stream) (config : ConsumerConfig) (update room : Bool) (c : Consumer) → IsAbsent a → consumer_of name (settled_state (consumer_asked a name config update room None).state) ≡ Some c
      → (info : ConsumerInfo) × ((consumer_asked a name config update room None).reply ≡ ConsumerTold info)
  asked_told a config true room c h e = absurd (none_some (sym (none_of (settled_state (Live a)) (absent_settled (Live a) h)) ∙ e))
  asked_told a config false room c h e = go (or_no_room room (first_refusal (making_checks a name config))) e
    where
      new : Stream
      new = record a { consumers = with_new a.consumers (new_consumer a name config) }

      go : (o : Option ApiError) → consumer_of name (settled_state (consumer_made a name config o).state) ≡ Some c → (info : ConsumerInfo) × ((consumer_made a name config o).reply ≡ ConsumerTold info)
      go None k = told_made new c (by_name (settled new).consumers name) refl k
      go (Some refusal) k = absurd (none_some (sym (none_of (settled_state (Live a)) (absent_settled (Live a) h)) ∙ k))

  made_by : (s : Stream) (new : State) (e : Event) (now : ℕ) (reply : Reply) (outs : List Out) (asked : Option Bytes) (config : ConsumerConfig) (update : Bool) (c : Consumer) → IsEvent (Live s) e now reply outs new
      → e.what ≡ MakeConsumer asked name config update → IsAbsent s → consumer_of name new ≡ Some c → Makes (Live s) e reply name config
  unfolding answered
  made_by s new e now reply outs asked config update c x q h k = record { asked = asked; update = update; info = told.0; event = q; absent = h; told = sym reply_is ∙ told.1 }
    where
      a : Stream
      a = advance s now

      absent : by_name a.consumers name ≡ None
      absent = absent_at_time s now name h

      reply_is : (consumer_asked a name config update x.room None).reply ≡ reply
      reply_is = subst (λ (o : Option Consumer). (consumer_asked a name config update x.room o).reply ≡ reply) absent (subst (λ (w : What). (stream_answer a w x.room).reply ≡ reply) q (ap (λ (b : Answer). b.reply) x.answers))

      state_is : settled_state (consumer_asked a name config update x.room None).state ≡ new
      state_is = subst (λ (o : Option Consumer). settled_state (consumer_asked a name config update x.room o).state ≡ new) absent (subst (λ (w : What). settled_state (stream_answer a w x.room).state ≡ new) q (ap (λ (b : Answer). b.state) x.answers))

      told : (info : ConsumerInfo) × ((consumer_asked a name config update x.room None).reply ≡ ConsumerTold info)
      told = asked_told a config update x.room c absent (ap (consumer_of name) state_is ∙ k)

  -- ---- runs

  abbrev NotDropped : List PlaceEntry → Type 0
  NotDropped entries = EachEvent (λ what. not (drops name what)) entries

  abbrev Stands : State → Type 0
  Stands s = (c : Consumer) × (consumer_of name s ≡ Some c)

  -- the first entry makes it
  made_here : (count : ℕ) (s : Stream) (entry : PlaceEntry) (e : Event) (now : ℕ) (reply : Reply) (outs : List Out) (config : ConsumerConfig) (mid : State) (entries : List PlaceEntry) (new : State) → IsSoundState (Live s)
      → IsEntryOf e now reply outs entry → IsStep count (Live s) e now reply outs mid → Makes (Live s) e reply name config → NotDropped entries → RunFrom (count + length (new_messages (Live s) mid)) mid entries new
      → IsMadeWithin name count (Live s) (entry ∷ entries) new
  made_here count s entry e now reply outs config mid entries new sound is x m kept r = record {
    before = [];
    entry = entry;
    after = entries;
    split = refl;
    event = e;
    moment = now;
    reply = reply;
    outs = outs;
    is = is;
    stream = s;
    made = mid;
    config = config;
    reached = refl;
    step = x;
    makes = m;
    rest = r;
    kept = kept;
    start = law_start name config count (count + length (new_messages (Live s) mid)) s mid new e now reply outs entries (split (Live s) sound) x m r;
  }

  -- if it stands after an event, it stood before and was not dropped, or the event made it
  by_event : (count : ℕ) (old : State) (entry : PlaceEntry) (e : Event) (now : ℕ) (reply : Reply) (outs : List Out) (mid : State) (entries : List PlaceEntry) (new : State) → IsSoundState old
      → IsEntryOf e now reply outs entry → IsStep count old e now reply outs mid → Stands mid → NotDropped entries → RunFrom (count + length (new_messages old mid)) mid entries new
      → ((drops name e.what ≡ false) × Stands old) ⊎ IsMadeWithin name count old (entry ∷ entries) new
  by_event count (Vacant i) entry e now reply outs mid entries new sound is x stands kept r = absurd (none_some (sym (none_of mid (none_yet i mid e now reply outs x.event)) ∙ stands.1))
  by_event count (Live s) entry e now reply outs mid entries new sound is x stands kept r = go (by_name s.consumers name) refl
    where
      spared : (b : Bool) → drops name e.what ≡ b → b ≡ false
      spared true g = absurd (none_some (sym (none_of mid (event_dropped (Live s) mid e now reply outs x.event g)) ∙ stands.1))
      spared false g = refl

      made : IsAbsent s → ((asked : Option Bytes) × (config : ConsumerConfig) × (update : Bool) × (e.what ≡ MakeConsumer asked name config update)) ⊎ (makes name e.what ≡ false) → IsMadeWithin name count (Live s) (entry ∷ entries) new
      made h (inl (asked, config, update, q)) =
          made_here count s entry e now reply outs config mid entries new sound is x (made_by s mid e now reply outs asked config update stands.0 x.event q h stands.1) kept r
      made h (inr g) = absurd (none_some (sym (none_of mid (absent_event (Live s) mid e now reply outs x.event g h)) ∙ stands.1))

      go : (o : Option Consumer) → by_name s.consumers name ≡ o → ((drops name e.what ≡ false) × Stands (Live s)) ⊎ IsMadeWithin name count (Live s) (entry ∷ entries) new
      go (Some c) q = inl (spared (drops name e.what) refl, (c, q))
      go None q = inr (made q (making_or_not e.what))

  by_delivery : (old mid : State) (now : ℕ) (listening : List Bytes) (d : Delivery) (outs : List Out) → IsDelivered old now listening d outs mid → Stands mid → Stands old
  by_delivery old mid now listening d outs x stands = go (consumer_of name old) refl
    where
      go : (o : Option Consumer) → consumer_of name old ≡ o → Stands old
      go (Some c) q = (c, q)
      go None q = absurd (none_some (sym (none_of mid (absent_delivery old mid now listening d outs x (absent_of old q))) ∙ stands.1))

  abbrev IsKnown : ℕ → State → List PlaceEntry → State → Type 0
  IsKnown count old entries new = (NotDropped entries × Stands old) ⊎ IsMadeWithin name count old entries new

  after_step : (count seat : ℕ) (old mid : State) (e : Event) (now : ℕ) (reply : Reply) (outs : List Out) (unsaid : Bool) (entries : List PlaceEntry) (new : State) → IsSoundState old → IsStep count old e now reply outs mid
      → RunFrom (count + length (new_messages old mid)) mid entries new → IsKnown (count + length (new_messages old mid)) mid entries new → IsKnown count old (Step seat e now reply outs unsaid ∷ entries) new
  after_step count seat old mid e now reply outs unsaid entries new sound x r (inl (kept, stands)) = go (by_event count old (Step seat e now reply outs unsaid) e now reply outs mid entries new sound (refl, refl, refl, refl) x stands kept r)
    where
      go : ((drops name e.what ≡ false) × Stands old) ⊎ IsMadeWithin name count old (Step seat e now reply outs unsaid ∷ entries) new → IsKnown count old (Step seat e now reply outs unsaid ∷ entries) new
      go (inl w) = inl ((ap not w.0, kept), w.1)
      go (inr m) = inr m
  after_step count seat old mid e now reply outs unsaid entries new sound x r (inr m) = inr (record {
    before = Step seat e now reply outs unsaid ∷ m.before;
    entry = m.entry;
    after = m.after;
    split = ap (λ l. Step seat e now reply outs unsaid ∷ l) m.split;
    event = m.event;
    moment = m.moment;
    reply = m.reply;
    outs = m.outs;
    is = m.is;
    stream = m.stream;
    made = m.made;
    config = m.config;
    reached = (mid, x, m.reached);
    step = m.step;
    makes = m.makes;
    rest = m.rest;
    kept = m.kept;
    start = m.start;
  })

  after_delivery : (count seat : ℕ) (old mid : State) (now : ℕ) (listening : List Bytes) (d : Delivery) (outs : List Out) (entries : List PlaceEntry) (new : State) → IsDeliverStep old now listening d outs mid
      → IsKnown (count + length (new_messages old mid)) mid entries new → IsKnown count old (Deliver seat now listening d outs ∷ entries) new
  after_delivery count seat old mid now listening d outs entries new x (inl (kept, stands)) = inl (kept, by_delivery old mid now listening d outs x.delivered stands)
  after_delivery count seat old mid now listening d outs entries new x (inr m) = inr (record {
    before = Deliver seat now listening d outs ∷ m.before;
    entry = m.entry;
    after = m.after;
    split = ap (λ l. Deliver seat now listening d outs ∷ l) m.split;
    event = m.event;
    moment = m.moment;
    reply = m.reply;
    outs = m.outs;
    is = m.is;
    stream = m.stream;
    made = m.made;
    config = m.config;
    reached = (mid, x, m.reached);
    step = m.step;
    makes = m.makes;
    rest = m.rest;
    kept = m.kept;
    start = m.start;
  })

  after_broken : (count seat : ℕ) (old : State) (e : Event) (now : ℕ) (reply : Reply) (outs : List Out) (new : State) → IsSoundState old → IsStep count old e now reply outs new → Stands new → IsKnown count old (Broken seat now (StepOf e) ∷ []) new
  after_broken count seat old e now reply outs new sound x stands = go (by_event count old (Broken seat now (StepOf e)) e now reply outs new [] new sound (refl, refl) x stands tt refl)
    where
      go : ((drops name e.what ≡ false) × Stands old) ⊎ IsMadeWithin name count old (Broken seat now (StepOf e) ∷ []) new → IsKnown count old (Broken seat now (StepOf e) ∷ []) new
      go (inl w) = inl ((ap not w.0, tt), w.1)
      go (inr m) = inr m

  known_run : (count : ℕ) (old : State) (entries : List PlaceEntry) (new : State) → IsSoundState old → Stands new → RunFrom count old entries new → IsKnown count old entries new
  known_run count old [] new sound stands r = inl (tt, subst Stands (sym r) stands)
  known_run count old (Step seat e now reply outs unsaid ∷ entries) new sound stands (mid, x, rest) =
      after_step count seat old mid e now reply outs unsaid entries new sound x rest (known_run (count + length (new_messages old mid)) mid entries new (sound_step count old mid e now reply outs x sound) stands rest)
  known_run count old (Deliver seat now listening d outs ∷ entries) new sound stands (mid, x, rest) =
      after_delivery count seat old mid now listening d outs entries new x (known_run (count + length (new_messages old mid)) mid entries new (sound_delivery old mid now listening d outs x.delivered sound) stands rest)
  known_run count old (Broken seat now (StepOf e) ∷ []) new sound stands (reply, outs, x) = after_broken count seat old e now reply outs new sound x stands
  known_run count old (Broken seat now (DeliverOf listening d) ∷ []) new sound stands (outs, x) = inl (tt, by_delivery old new now listening d outs x.delivered stands)
  known_run count old (Broken seat now call ∷ entry ∷ entries) new sound stands r = absurd r

pub law_made : LawMade
law_made name count old new entries c s absent stands r = go (known_run name count old entries new (join old s) (c, stands) r)
  where
    go : IsKnown name count old entries new → IsMadeWithin name count old entries new
    go (inl w) = absurd (none_some (sym absent ∙ w.1.1))
    go (inr m) = m

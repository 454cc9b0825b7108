-- A publish of an id within its window is told the first sequence.
use Rattle.std.proofs.Common.{◌≡◌, ℕ, ◌+◌, ◌<◌, Bool, true, false, cond, List, [], ◌∷◌, ◌++◌, length, max, refl, sym, ap, ◌∙◌, subst, arith}
use Rattle.std.specs.Prelude.{Option, Some, None, filter, find, nat_lt, is_some, unwrap_or}
use Rattle.std.proofs.lemmas.Bool.{lt-ltb, true≢false}
use Rattle.js_base.specs.Bytes.{Bytes, same, is_empty, has}
use Rattle.js_base.specs.Moments.{plus}
use Rattle.js_base.specs.declared.out.Out.{Out}
use Rattle.js_base.specs.declared.out.ApiError.{ApiError}
use Rattle.js_model.specs.declared.stream.Id.{Id}
use Rattle.js_model.specs.declared.stream.Stream.{Stream}
use Rattle.js_model.specs.declared.stream.State.{State}
use Rattle.js_model.specs.declared.stream.State.TheVariants.{Vacant, Live}
use Rattle.js_model.specs.declared.consumer.Consumer.{Consumer}
use Rattle.js_model.specs.declared.event.Event.{Event}
use Rattle.js_model.specs.declared.event.Publish.{Publish}
use Rattle.js_model.specs.declared.event.What.{What}
use Rattle.js_model.specs.declared.event.What.TheVariants.{Make, Change, Drop as DropStream, Publish as PublishIt, Purge, Delete, MakeConsumer, DropConsumer, Ack as AckIt, Pull as PullIt, Tick, StreamInfo as AskStream, MessageGet, ConsumerInfo as AskConsumer, ConsumerNames, ConsumerList}
use Rattle.js_model.specs.declared.reply.Reply.{Reply}
use Rattle.js_model.specs.declared.reply.Reply.TheVariants.{Published, Duplicate, Refused}
use Rattle.js_model.specs.declared.reply.Verdict.{Verdict}
use Rattle.js_model.specs.declared.reply.Verdict.TheVariants.{Take, Duplicate as TakenBefore, Refused as RefusedBy}
use Rattle.js_model.specs.declared.entry.PlaceEntry.{PlaceEntry}
use Rattle.js_model.specs.declared.entry.PlaceEntry.TheVariants.{Step, Deliver, Broken}
use Rattle.js_model.specs.declared.entry.Call.TheVariants.{Step as StepOf, Deliver as DeliverOf}
use Rattle.js_model.specs.declared.reply.Answer.{Answer}
use Rattle.js_model.specs.Streams.{with_consumer, over_limit}
use Rattle.js_model.specs.Refusals.{first_refusal, no_stream, message_too_large, bad_header_number, id_too_long, wrong_stream}
use Rattle.js_model.specs.Advance.{advance, aged}
use Rattle.js_model.specs.Retention.{kept}
use Rattle.js_model.specs.Trim.{trim}
use Rattle.js_model.specs.Verdict.{verdict, known, text_differs, first_of_all, early_checks, late_checks, message_of}
use Rattle.js_model.specs.Events.{answered, published, with_message, with_id, vacant_answer, IsEvent, settled_state, stream_answer}
use Rattle.js_model.specs.Runs.{RunFrom, IsStep, new_messages}
use Rattle.js_model.specs.StateMoments.{moment_of, state_at}
use Rattle.model_laws.specs.Repeats.{IsRepeatReply, EachEvent, keeps_window, window_of, id_of}
use Rattle.model_laws.specs.Laws.{LawDuplicate}
use Rattle.js_model.proofs.Named.{none_some, some_is, same_self}
use Rattle.model_laws.proofs.SoundStored.{taken_is_new}
use Rattle.model_laws.proofs.Facts.{IsStreamFact, IfLive, at_event, at_settled, at_delivery}

-- ---- ids in the window

-- the id stands in the list, with this sequence and this moment
pub record Remembers (id : Bytes) (n t : ℕ) (ids : List Id) : Type 0 where
  pub entry : Id
  pub found : find (λ i. same i.id id) ids ≡ Some entry
  pub seq : entry.seq ≡ n
  pub at : entry.at ≡ t

find_filter : (t p : Id → Bool) (is : List Id) (i : Id) → find t is ≡ Some i → p i ≡ true → find t (filter p is) ≡ Some i
find_filter t p [] i h k = h
find_filter t p (j ∷ is) i h k = go (t j) (p j) refl refl (find_filter t p is i) h
  where
    go : (a b : Bool) → t j ≡ a → p j ≡ b → (find t is ≡ Some i → p i ≡ true → find t (filter p is) ≡ Some i) → cond a (Some j) (find t is) ≡ Some i → find t (cond b (j ∷ filter p is) (filter p is)) ≡ Some i
    go true true e f r h = ap (λ c. cond c (Some j) (find t (filter p is))) e ∙ h
    go true false e f r h = absurd (true≢false (sym (subst (λ (x : Id). p x ≡ true) (sym (some_is h)) k) ∙ f))
    go false true e f r h = ap (λ c. cond c (Some j) (find t (filter p is))) e ∙ r h k
    go false false e f r h = r h k

find_push : (t : Id → Bool) (is : List Id) (i j : Id) → find t is ≡ Some i → find t (is ++ j ∷ []) ≡ Some i
find_push t [] i j h = absurd (none_some h)
find_push t (k ∷ is) i j h = go (t k) (find_push t is i j) h
  where
    go : (a : Bool) → (find t is ≡ Some i → find t (is ++ j ∷ []) ≡ Some i) → cond a (Some k) (find t is) ≡ Some i → cond a (Some k) (find t (is ++ j ∷ [])) ≡ Some i
    go true r h = h
    go false r h = r h

find_last : (t : Id → Bool) (is : List Id) (i : Id) → find t is ≡ None → t i ≡ true → find t (is ++ i ∷ []) ≡ Some i
find_last t [] i h e = ap (λ (b : Bool). cond b (Some i) None) e
find_last t (k ∷ is) i h e = go (t k) (λ q. find_last t is i q e) h
  where
    go : (a : Bool) → (find t is ≡ None → find t (is ++ i ∷ []) ≡ Some i) → cond a (Some k) (find t is) ≡ None → cond a (Some k) (find t (is ++ i ∷ [])) ≡ Some i
    go true r h = absurd (none_some (sym h))
    go false r h = r h

remembers_later : (id : Bytes) (n t now window : ℕ) (ids : List Id) → Remembers id n t ids → now < plus t window → Remembers id n t (filter (λ i. nat_lt now (plus i.at window)) ids)
remembers_later id n t now window ids h young = record {
  entry = h.entry;
  found = find_filter (λ i. same i.id id) (λ i. nat_lt now (plus i.at window)) ids h.entry h.found (rw h.at (lt-ltb now (plus t window) young));
  seq = h.seq;
  at = h.at;
}

remembers_push : (id : Bytes) (n t : ℕ) (ids : List Id) (i : Id) → Remembers id n t ids → Remembers id n t (ids ++ i ∷ [])
remembers_push id n t ids i h = record { entry = h.entry; found = find_push (λ i. same i.id id) ids h.entry i h.found; seq = h.seq; at = h.at }

-- ---- as long as the moment is in the window, the id stands

record IsRemembered (id : Bytes) (n t window : ℕ) (s : Stream) : Type 0 where
  window_is : s.config.duplicate_window ≡ window
  stands : s.moment < plus t window → Remembers id n t s.ids

module _ (id : Bytes) (n t window : ℕ) where
  at_later : (s : Stream) (now : ℕ) → IsRemembered id n t window s → IsRemembered id n t window (advance s now)
  unfolding advance
  at_later s now h = record { window_is = h.window_is; stands = stands }
    where
      stands : max s.moment now < plus t window → Remembers id n t (aged s (max s.moment now)).ids
      stands w = subst (λ (v : ℕ). Remembers id n t (filter (λ i. nat_lt (max s.moment now) (plus i.at v)) s.ids)) (sym h.window_is) (remembers_later id n t (max s.moment now) window s.ids (h.stands (omega arith)) w)

  at_stored : (s : Stream) (p : Publish) → IsRemembered id n t window s → IsRemembered id n t window (with_message s p)
  at_stored s p h = go p.wants.id
    where
      go : (other : Bytes) → IsRemembered id n t window (with_id (record s { messages = s.messages ++ message_of s p ∷ []; last = s.last + 1 }) other)
      go [] = record { window_is = h.window_is; stands = h.stands }
      go (byte ∷ more) = record { window_is = h.window_is; stands = λ w. remembers_push id n t s.ids _ (h.stands w) }

  remembered_fact : IsStreamFact (λ w. keeps_window w ≡ true) ⊥ (IsRemembered id n t window)
  remembered_fact = record {
    change = record {
      gone = λ s reply g h. absurd (true≢false (sym g));
      only = λ s messages part h. record { window_is = h.window_is; stands = h.stands };
      configured = λ s reply config g h. absurd (true≢false (sym g));
      stored = λ s p room g e h. at_stored s p h;
      made = λ s reply name config g e r h. record { window_is = h.window_is; stands = h.stands };
      removed = λ s reply name c g e h. record { window_is = h.window_is; stands = h.stands };
      acked = λ s reply ack c g e q h. record { window_is = h.window_is; stands = h.stands };
      pulled = λ s reply name ask c g e h. record { window_is = h.window_is; stands = h.stands };
    };
    empty = λ i now reply config g v. absurd v;
    time = at_later;
  }

  abbrev InWindow : State → Type 0
  InWindow s = IfLive ⊥ (IsRemembered id n t window) s

  step_remembers : (count : ℕ) (old new : State) (e : Event) (now : ℕ) (reply : Reply) (outs : List Out) → IsStep count old e now reply outs new → keeps_window e.what ≡ true → InWindow old → InWindow new
  step_remembers count old new e now reply outs x g h = at_event (λ w. keeps_window w ≡ true) ⊥ (IsRemembered id n t window) remembered_fact old new e now reply outs x.event g h

  with_any : (s : Stream) (c : Consumer) → IsRemembered id n t window s → IsRemembered id n t window (with_consumer s c)
  with_any s c h = record { window_is = h.window_is; stands = h.stands }

  run_remembers : (count : ℕ) (old new : State) (entries : List PlaceEntry) → RunFrom count old entries new → EachEvent keeps_window entries → InWindow old → InWindow new
  run_remembers count old new [] r g h = subst InWindow r h
  run_remembers count old new (Step seat e now reply outs unsaid ∷ entries) (mid, x, rest) g h = run_remembers (count + length (new_messages old mid)) mid new entries rest g.1 (step_remembers count old mid e now reply outs x g.0 h)
  run_remembers count old new (Deliver seat now listening d outs ∷ entries) (mid, x, rest) g h =
      run_remembers (count + length (new_messages old mid)) mid new entries rest g (at_delivery (λ w. keeps_window w ≡ true) ⊥ (IsRemembered id n t window) remembered_fact with_any old mid now listening d outs x.delivered h)
  run_remembers count old new (Broken seat now (StepOf e) ∷ []) (reply, outs, x) g h = step_remembers count old new e now reply outs x g.0 h
  run_remembers count old new (Broken seat now (DeliverOf listening d) ∷ []) (outs, x) g h = at_delivery (λ w. keeps_window w ≡ true) ⊥ (IsRemembered id n t window) remembered_fact with_any old new now listening d outs x.delivered h
  run_remembers count old new (Broken seat now call ∷ entry ∷ entries) r g h = absurd r

-- ---- the first publish

publish_of : (w : What) → is_empty (id_of w) ≡ false → (p : Publish) × (w ≡ PublishIt p)
publish_of (PublishIt p) e = (p, refl)
publish_of (Make reply config) e = absurd (true≢false e)
publish_of (Change reply config) e = absurd (true≢false e)
publish_of (DropStream reply) e = absurd (true≢false e)
publish_of (Purge reply pattern below keep) e = absurd (true≢false e)
publish_of (Delete reply k) e = absurd (true≢false e)
publish_of (MakeConsumer reply name config update) e = absurd (true≢false e)
publish_of (DropConsumer reply name) e = absurd (true≢false e)
publish_of (AckIt reply ack) e = absurd (true≢false e)
publish_of (PullIt reply name ask) e = absurd (true≢false e)
publish_of Tick e = absurd (true≢false e)
publish_of (AskStream reply) e = absurd (true≢false e)
publish_of (MessageGet reply by) e = absurd (true≢false e)
publish_of (AskConsumer reply name) e = absurd (true≢false e)
publish_of (ConsumerNames reply offset) e = absurd (true≢false e)
publish_of (ConsumerList reply offset) e = absurd (true≢false e)

settled_moment : (s : Stream) → moment_of (settled_state (Live s)) ≡ s.moment
unfolding kept trim
settled_moment s = refl

settled_window : (s : Stream) → window_of (settled_state (Live s)) ≡ s.config.duplicate_window
unfolding kept trim
settled_window s = refl

-- what a publish that is taken leaves
taken_remembers : (a : Stream) (p : Publish) (room : Bool) → verdict a p room ≡ Take → is_empty p.wants.id ≡ false → IsRemembered p.wants.id (a.last + 1) a.moment a.config.duplicate_window (with_message a p)
taken_remembers a p room e some = go p.wants.id some (taken_is_new a p room e)
  where
    go : (id : Bytes) → is_empty id ≡ false → known a id ≡ None → IsRemembered id (a.last + 1) a.moment a.config.duplicate_window (with_id (record a { messages = a.messages ++ message_of a p ∷ []; last = a.last + 1 }) id)
    go [] q absent = absurd (true≢false q)
    go (byte ∷ more) q absent = record {
      window_is = refl;
      stands = λ w. record { entry = record { id = byte ∷ more; seq = a.last + 1; at = a.moment }; found = find_last (λ i. same i.id (byte ∷ more)) a.ids _ absent (same_self (byte ∷ more)); seq = refl; at = refl };
    }

abbrev InWindowOf : Bytes → ℕ → State → Type 0
InWindowOf id n s = InWindow id n (moment_of s) (window_of s) s

settled_remembers : (id : Bytes) (n t window : ℕ) (s : Stream) → t ≡ s.moment → window ≡ s.config.duplicate_window → IsRemembered id n t window s → InWindowOf id n (settled_state (Live s))
settled_remembers id n t window s e f h =
    subst (λ (u : ℕ). InWindow id n u (window_of (settled_state (Live s))) (settled_state (Live s))) (e ∙ sym (settled_moment s))
    (subst (λ (v : ℕ). InWindow id n t v (settled_state (Live s))) (f ∙ sym (settled_window s))
    (at_settled (λ w. keeps_window w ≡ true) ⊥ (IsRemembered id n t window) (remembered_fact id n t window) (Live s) h))

published_remembers : (a : Stream) (p : Publish) (room : Bool) (n : ℕ) (v : Verdict) → verdict a p room ≡ v → is_empty p.wants.id ≡ false → (published a p v).reply ≡ Published n → InWindowOf p.wants.id n (settled_state (published a p v).state)
published_remembers a p room n Take e some q = subst (λ (m : ℕ). InWindowOf p.wants.id m (settled_state (Live (with_message a p)))) number (settled_remembers p.wants.id (a.last + 1) a.moment a.config.duplicate_window (with_message a p) (moment_same p.wants.id) (window_same p.wants.id) (taken_remembers a p room e some))
  where
    number : a.last + 1 ≡ n
    number = cc

    moment_same : (id : Bytes) → a.moment ≡ (with_id (record a { messages = a.messages ++ message_of a p ∷ []; last = a.last + 1 }) id).moment
    moment_same [] = refl
    moment_same (byte ∷ more) = refl

    window_same : (id : Bytes) → a.config.duplicate_window ≡ (with_id (record a { messages = a.messages ++ message_of a p ∷ []; last = a.last + 1 }) id).config.duplicate_window
    window_same [] = refl
    window_same (byte ∷ more) = refl
published_remembers a p room n (TakenBefore m) e some q = absurd (other q)
  where
    other : Duplicate m ≡ Published n → ⊥
    other w = cc
published_remembers a p room n (RefusedBy r) e some q = absurd (other q)
  where
    other : Refused r ≡ Published n → ⊥
    other w = cc

first_remembers : (n : ℕ) (old mid : State) (e : Event) (now : ℕ) (outs : List Out) → IsEvent old e now (Published n) outs mid → is_empty (id_of e.what) ≡ false → InWindowOf (id_of e.what) n mid
unfolding answered
first_remembers n (Vacant i) mid e now outs x some = absurd (other (subst (λ (w : What). (vacant_answer i w now x.room).reply ≡ Published n) found.1 (ap (λ (a : Answer). a.reply) x.answers)))
  where
    found : (p : Publish) × (e.what ≡ PublishIt p)
    found = publish_of e.what some

    other : Refused no_stream ≡ Published n → ⊥
    other w = cc
first_remembers n (Live s) mid e now outs x some =
    subst (λ (w : What). InWindowOf (id_of w) n mid) (sym found.1)
    (subst (InWindowOf found.0.wants.id n) mid_is (published_remembers (advance s now) found.0 x.room n (verdict (advance s now) found.0 x.room) refl (subst (λ (w : What). is_empty (id_of w) ≡ false) found.1 some) reply_is))
  where
    found : (p : Publish) × (e.what ≡ PublishIt p)
    found = publish_of e.what some

    reply_is : (published (advance s now) found.0 (verdict (advance s now) found.0 x.room)).reply ≡ Published n
    reply_is = subst (λ (w : What). (stream_answer (advance s now) w x.room).reply ≡ Published n) found.1 (ap (λ (a : Answer). a.reply) x.answers)

    mid_is : settled_state (published (advance s now) found.0 (verdict (advance s now) found.0 x.room)).state ≡ mid
    mid_is = subst (λ (w : What). settled_state (stream_answer (advance s now) w x.room).state ≡ mid) found.1 (ap (λ (a : Answer). a.state) x.answers)

-- ---- the second one

-- the number of an early refusal
early_number : (s : Stream) (p : Publish) (e : ApiError) → first_refusal (early_checks s p) ≡ Some e → has (20018 ∷ 20021 ∷ 20014 ∷ 10060 ∷ []) e.err_code ≡ true
early_number s p e h = go (over_limit (length p.headers + length p.payload) s.config.max_msg_size) (is_some p.wants.bad) (nat_lt 256 (length p.wants.id)) (text_differs p.wants.stream s.config.name) h
  where
    number : (r : ApiError) → r ≡ e → has (20018 ∷ 20021 ∷ 20014 ∷ 10060 ∷ []) r.err_code ≡ true → has (20018 ∷ 20021 ∷ 20014 ∷ 10060 ∷ []) e.err_code ≡ true
    number r q k = subst (λ (x : ApiError). has (20018 ∷ 20021 ∷ 20014 ∷ 10060 ∷ []) x.err_code ≡ true) q k

    go : (a b c d : Bool) → first_refusal ((a, message_too_large) ∷ (b, bad_header_number (unwrap_or p.wants.bad [])) ∷ (c, id_too_long) ∷ (d, wrong_stream) ∷ []) ≡ Some e → has (20018 ∷ 20021 ∷ 20014 ∷ 10060 ∷ []) e.err_code ≡ true
    go true b c d q = number message_too_large (some_is q) refl
    go false true c d q = number (bad_header_number (unwrap_or p.wants.bad [])) (some_is q) refl
    go false false true d q = number id_too_long (some_is q) refl
    go false false false true q = number wrong_stream (some_is q) refl
    go false false false false q = absurd (none_some q)

repeat_reply : (a : Stream) (p : Publish) (room : Bool) (n t : ℕ) → is_empty p.wants.id ≡ false → Remembers p.wants.id n t a.ids → IsRepeatReply n (published a p (verdict a p room)).reply
unfolding verdict
repeat_reply a p room n t some h = go (first_refusal (early_checks a p)) refl
  where
    stands : known a p.wants.id ≡ Some h.entry
    stands = ap (λ b. cond b None (find (λ i. same i.id p.wants.id) a.ids)) some ∙ h.found

    go : (early : Option ApiError) → first_refusal (early_checks a p) ≡ early → IsRepeatReply n (published a p (first_of_all early (known a p.wants.id) (first_refusal (late_checks a p room)))).reply
    go (Some e) q = early_number a p e q
    go None q = subst (λ (o : Option Id). IsRepeatReply n (published a p (first_of_all None o (first_refusal (late_checks a p room)))).reply) (sym stands) h.seq

second_reply : (id : Bytes) (n t window : ℕ) (later new : State) (e : Event) (now : ℕ) (reply : Reply) (outs : List Out) → IsEvent later e now reply outs new → is_empty (id_of e.what) ≡ false → id_of e.what ≡ id
    → moment_of (state_at later now) < plus t window → InWindow id n t window later → IsRepeatReply n reply
unfolding answered
second_reply id n t window (Vacant i) new e now reply outs x some same_id within h = absurd h
second_reply id n t window (Live s) new e now reply outs x some same_id within h =
    subst (IsRepeatReply n) reply_is (repeat_reply (advance s now) found.0 x.room n t (subst (λ (w : What). is_empty (id_of w) ≡ false) found.1 some) remembers)
  where
    found : (p : Publish) × (e.what ≡ PublishIt p)
    found = publish_of e.what some

    remembers : Remembers found.0.wants.id n t (advance s now).ids
    remembers = subst (λ (i : Bytes). Remembers i n t (advance s now).ids) (sym same_id ∙ ap id_of found.1) ((at_later id n t window s now h).stands within)

    reply_is : (published (advance s now) found.0 (verdict (advance s now) found.0 x.room)).reply ≡ reply
    reply_is = subst (λ (w : What). (stream_answer (advance s now) w x.room).reply ≡ reply) found.1 (ap (λ (a : Answer). a.reply) x.answers)

pub law_duplicate : LawDuplicate
law_duplicate n count between after old mid later new first second now then reply outs others entries h x r g y w =
    second_reply (id_of first.what) n (moment_of mid) (window_of mid) later new second then reply others y.event
    (subst (λ (i : Bytes). is_empty i ≡ false) (sym w.same_id) w.id) w.same_id w.within
    (run_remembers (id_of first.what) n (moment_of mid) (window_of mid) between mid later entries r g (first_remembers n old mid first now outs x.event w.id))

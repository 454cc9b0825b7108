-- A tick right after one at the same moment that sent nothing changes nothing and sends nothing.
use Rattle.std.proofs.Common.{◌≡◌, ℕ, ◌+◌, ◌<◌, ◌≤◌, Bool, true, false, ◌&&◌, ◌||◌, not, cond, List, [], ◌∷◌, ◌++◌, map, length, max, refl, sym, ap, ◌∙◌, subst, arith}
use Rattle.std.specs.Prelude.{Option, Some, None, filter, nat_lt, ◌==◌, count_by, sum_by, All, IfSome, fold}
use Rattle.std.specs.List.{list_any, flat_map}
use Rattle.std.proofs.lemmas.Bool.{true≢false, eqb-true, eq-eqb, or_left, or_right, lt-ltb}
use Rattle.std.proofs.lemmas.List.Elements.{All-nil, All-cons, All-head, All-tail, All-map, All-weaker}
use Rattle.js_base.specs.Bytes.{Bytes, same, has}
use Rattle.js_base.specs.Moments.{plus}
use Rattle.js_base.specs.declared.out.Out.{Out}
use Rattle.js_model.specs.declared.stream_config.Retention.{Retention as Policy}
use Rattle.js_model.specs.declared.stream_config.Retention.TheVariants.{Limits, Interest, WorkQueue}
use Rattle.js_model.specs.declared.stream.Message.{Message}
use Rattle.js_model.specs.declared.stream.Id.{Id}
use Rattle.js_model.specs.declared.stream.Stream.{Stream}
use Rattle.js_model.specs.declared.stream.State.{State}
use Rattle.js_model.specs.declared.stream.State.TheVariants.{Vacant, Live}
use Rattle.js_model.specs.declared.consumer.Pull.{Pull}
use Rattle.js_model.specs.declared.consumer.Consumer.{Consumer}
use Rattle.js_model.specs.declared.event.Event.{Event}
use Rattle.js_model.specs.declared.event.What.{What}
use Rattle.js_model.specs.declared.event.What.TheVariants.{Tick}
use Rattle.js_model.specs.declared.reply.Answer.{Answer}
use Rattle.js_model.specs.declared.reply.Reply.TheVariants.{Silent}
use Rattle.js_model.specs.Lists.{IsPart, Lacks}
use Rattle.js_model.specs.Streams.{only, seqs, confined, pending_seqs, takes, is_push, size}
use Rattle.js_model.specs.Advance.{advance, advance_outs, stream_at, aged, young, remembered, consumer_at, consumer_outs, timeout, pull_beat, push_beat, is_spent, is_over, running, beaten, pull_comes, push_comes, has_come, placed}
use Rattle.js_model.specs.Retention.{kept, needs, is_kept}
use Rattle.js_model.specs.Trim.{newest, newest_at, fitting_at, max_messages, trim_subjects, trim_count, trim_bytes, trim}
use Rattle.js_model.specs.Events.{answered, completed, stream_answer, vacant_answer, settled}
use Rattle.model_laws.specs.Laws.{LawTick}
use Rattle.js_model.proofs.Named.{same_self}
use Rattle.js_model.proofs.Members.{IsIn, here, there, in_filter}
use Rattle.js_model.proofs.Lacking.{lacks-cons, lacks-head, lacks-tail, lacks-nil, lacks-part}
use Rattle.js_model.proofs.Parts.{filter_part, part-length, drop_part, newest_at_part, fitting_at_part}
use Rattle.model_laws.proofs.SoundParts.{confined_pending}
use Rattle.model_laws.proofs.Within.{AreWithin, settled_within, last_of_length, count_cons}
use Rattle.model_laws.proofs.Taken.{filter_again, only_again, last_of_few, fitting_few}

-- ---- what a filter leaves as it is

filter_all : {X : Type 0} (t : X → Bool) (xs : List X) → ((x : X) → IsIn x xs → t x ≡ true) → filter t xs ≡ xs
filter_all t [] h = refl
filter_all t (x ∷ xs) h = ap (λ (b : Bool). cond b (x ∷ filter t xs) (filter t xs)) (h x here) ∙ ap (λ l. x ∷ l) (filter_all t xs (λ y i. h y (there i)))

lacks_in : {X : Type 0} (t : X → Bool) (x : X) (xs : List X) → Lacks t xs → IsIn x xs → t x ≡ false
lacks_in t x [] h i = elim i [ ]
lacks_in t x (y ∷ ys) h here = lacks-head h
lacks_in t x (y ∷ ys) h (there i) = lacks_in t x ys (lacks-tail h) i

-- none is taken out
filter_lacking : {X : Type 0} (t : X → Bool) (xs : List X) → Lacks t xs → filter (λ x. not (t x)) xs ≡ xs
filter_lacking t xs h = filter_all (λ x. not (t x)) xs (λ x i. ap not (lacks_in t x xs h i))

filter_none : {X : Type 0} (t : X → Bool) (xs : List X) → Lacks t xs → filter t xs ≡ []
filter_none t [] h = refl
filter_none t (x ∷ xs) h = ap (λ (b : Bool). cond b (x ∷ filter t xs) (filter t xs)) (lacks-head h) ∙ filter_none t xs (lacks-tail h)

lacking_filter : {X : Type 0} (t : X → Bool) (xs : List X) → filter t xs ≡ [] → Lacks t xs
lacking_filter t [] e = lacks-nil
lacking_filter t (x ∷ xs) e = go (t x) refl e (lacking_filter t xs)
  where
    go : (b : Bool) → t x ≡ b → cond b (x ∷ filter t xs) (filter t xs) ≡ [] → (filter t xs ≡ [] → Lacks t xs) → Lacks t (x ∷ xs)
    go true q w f = cc
    go false q w f = lacks-cons q (f w)

filtered_lacks : {X : Type 0} (t : X → Bool) (xs : List X) → Lacks t (filter (λ x. not (t x)) xs)
filtered_lacks t [] = lacks-nil
filtered_lacks t (x ∷ xs) = go (t x) refl (filtered_lacks t xs)
  where
    go : (b : Bool) → t x ≡ b → Lacks t (filter (λ x. not (t x)) xs) → Lacks t (cond (not b) (x ∷ filter (λ x. not (t x)) xs) (filter (λ x. not (t x)) xs))
    go true q h = h
    go false q h = lacks-cons q h

empty_parts : {X : Type 0} (xs ys : List X) → xs ++ ys ≡ [] → (xs ≡ []) × (ys ≡ [])
empty_parts [] ys e = (refl, e)
empty_parts (x ∷ xs) ys e = cc

empty_map : {X Y : Type 0} (f : X → Y) (xs : List X) → map f xs ≡ [] → xs ≡ []
empty_map f [] e = refl
empty_map f (x ∷ xs) e = cc

-- ---- a consumer for which nothing comes at the moment

record IsStillConsumer (now : ℕ) (c : Consumer) : Type 0 where
  pending : Lacks (is_spent now c) c.pending
  given_up : length c.given_up ≤ 65536
  over : Lacks (is_over now) c.waiting
  beats : Lacks (pull_comes now) c.waiting
  own : push_comes now c ≡ false

still_confined : (now : ℕ) (ns : List ℕ) (c : Consumer) → IsStillConsumer now c → IsStillConsumer now (confined ns c)
still_confined now ns c h = record {
  pending = lacks-part (filter_part (λ p. has ns p.seq) c.pending) h.pending;
  given_up = let a : length c.given_up ≤ 65536 = h.given_up in let b : length (filter (has ns) c.given_up) ≤ length c.given_up = part-length (filter_part (has ns) c.given_up) in omega arith;
  over = h.over;
  beats = h.beats;
  own = h.own;
}

unbeaten : (now : ℕ) (ps : List Pull) → Lacks (pull_comes now) ps → map (beaten now) ps ≡ ps
unbeaten now [] h = refl
unbeaten now (p ∷ ps) h = ap (λ (b : Bool). cond b (record p { mark = now }) p ∷ map (beaten now) ps) (lacks-head h) ∙ ap (λ l. p ∷ l) (unbeaten now ps (lacks-tail h))

still_at : (now : ℕ) (c : Consumer) → IsStillConsumer now c → consumer_at now c ≡ c
still_at now c h =
    rw (filter_none (is_spent now c) c.pending h.pending, filter_lacking (is_spent now c) c.pending h.pending, filter_lacking (is_over now) c.waiting h.over, unbeaten now c.waiting h.beats, h.own, last_of_few 65536 c.given_up h.given_up) refl

still_outs : (now : ℕ) (c : Consumer) → IsStillConsumer now c → consumer_outs now c ≡ []
still_outs now c h = rw (filter_none (is_over now) c.waiting h.over, filter_lacking (is_over now) c.waiting h.over, filter_none (pull_comes now) c.waiting h.beats, h.own) refl

-- what a consumer to which nothing is sent is at the moment
silent_still : (now : ℕ) (c : Consumer) → consumer_outs now c ≡ [] → IsStillConsumer now (consumer_at now c)
silent_still now c e = record {
  pending = filtered_lacks (is_spent now c) c.pending;
  given_up = last_of_length 65536 (fold placed c.given_up (map (λ p. p.seq) (filter (is_spent now c) c.pending)));
  over = subst (Lacks (is_over now)) (sym (unbeaten now (running now c) beats)) (filtered_lacks (is_over now) c.waiting);
  beats = subst (Lacks (pull_comes now)) (sym (unbeaten now (running now c) beats)) beats;
  own = subst (λ (b : Bool). (is_push c && has_come now (cond b now c.mark) c.config.idle_heartbeat) ≡ false) (sym own) own;
}
  where
    ended : List Out
    ended = map timeout (filter (is_over now) c.waiting)

    beaten_now : List Out
    beaten_now = map pull_beat (filter (pull_comes now) (running now c))

    last : List Out
    last = cond (push_comes now c) (push_beat c ∷ []) []

    parts : ((ended ++ beaten_now) ≡ []) × (last ≡ [])
    parts = empty_parts (ended ++ beaten_now) last e

    beats : Lacks (pull_comes now) (running now c)
    beats = lacking_filter (pull_comes now) (running now c) (empty_map pull_beat (filter (pull_comes now) (running now c)) (empty_parts ended beaten_now parts.0).1)

    own : push_comes now c ≡ false
    own = go (push_comes now c) parts.1
      where
        go : (b : Bool) → cond b (push_beat c ∷ []) [] ≡ [] → b ≡ false
        go true w = cc
        go false w = refl

-- ---- a stream at a moment at which nothing comes

-- a message that is too old at the moment
abbrev is_old : ℕ → ℕ → Message → Bool
is_old age now m = not (age == 0) && not (nat_lt now (plus m.at age))

record IsStill (now : ℕ) (s : Stream) : Type 0 where
  moment : s.moment ≡ now
  messages : Lacks (is_old s.config.max_age now) s.messages
  ids : remembered s now ≡ s.ids
  consumers : All (IsStillConsumer now) s.consumers

still_only : (now : ℕ) (s : Stream) (messages : List Message) → IsPart messages s.messages → IsStill now s → IsStill now (only s messages)
still_only now s messages p h = record {
  moment = h.moment;
  messages = lacks-part p h.messages;
  ids = h.ids;
  consumers = All-map (IsStillConsumer now) (confined (seqs messages)) s.consumers (All-weaker (IsStillConsumer now) (λ c. IsStillConsumer now (confined (seqs messages) c)) (λ c k. still_confined now (seqs messages) c k) s.consumers h.consumers);
}

all_young : (s : Stream) (now : ℕ) → Lacks (is_old s.config.max_age now) s.messages → young s now ≡ s.messages
all_young s now h = go (s.config.max_age == 0) h
  where
    go : (b : Bool) → Lacks (λ m. not b && not (nat_lt now (plus m.at s.config.max_age))) s.messages → cond b s.messages (filter (λ m. nat_lt now (plus m.at s.config.max_age)) s.messages) ≡ s.messages
    go true k = refl
    go false k = filter_all _ s.messages (λ m i. not_false (nat_lt now (plus m.at s.config.max_age)) (lacks_in _ m s.messages k i))
      where
        not_false : (b : Bool) → not b ≡ false → b ≡ true
        not_false true e = refl
        not_false false e = absurd (true≢false e)

young_lacks : (s : Stream) (now : ℕ) → Lacks (is_old s.config.max_age now) (young s now)
young_lacks s now = go (s.config.max_age == 0)
  where
    never : (ms : List Message) → Lacks (λ m. false) ms
    never [] = lacks-nil
    never (m ∷ ms) = lacks-cons refl (never ms)

    tested : (t : Message → Bool) (ms : List Message) → Lacks (λ m. not (t m)) (filter t ms)
    tested t [] = lacks-nil
    tested t (m ∷ ms) = keeps (t m) refl (tested t ms)
      where
        keeps : (b : Bool) → t m ≡ b → Lacks (λ m. not (t m)) (filter t ms) → Lacks (λ m. not (t m)) (cond b (m ∷ filter t ms) (filter t ms))
        keeps true e k = lacks-cons (ap not e) k
        keeps false e k = k

    go : (b : Bool) → Lacks (λ m. not b && not (nat_lt now (plus m.at s.config.max_age))) (cond b s.messages (filter (λ m. nat_lt now (plus m.at s.config.max_age)) s.messages))
    go true = never s.messages
    go false = tested (λ m. nat_lt now (plus m.at s.config.max_age)) s.messages

silent_each : (now : ℕ) (cs : List Consumer) → flat_map (consumer_outs now) cs ≡ [] → All (λ c. IsStillConsumer now (consumer_at now c)) cs
silent_each now [] e = All-nil (λ c. IsStillConsumer now (consumer_at now c))
silent_each now (c ∷ cs) e =
    let w = empty_parts (consumer_outs now c) (flat_map (consumer_outs now) cs) e in
    All-cons (λ c. IsStillConsumer now (consumer_at now c)) c cs (silent_still now c w.0) (silent_each now cs w.1)

-- what a stream that sends nothing is at the moment
still_after : (s : Stream) (now : ℕ) → advance_outs s now ≡ [] → IsStill (max s.moment now) (advance s now)
unfolding advance advance_outs
still_after s now e = record {
  moment = refl;
  messages = young_lacks s (max s.moment now);
  ids = filter_again _ s.ids;
  consumers = All-map (IsStillConsumer (max s.moment now)) (consumer_at (max s.moment now)) (aged s (max s.moment now)).consumers (silent_each (max s.moment now) (aged s (max s.moment now)).consumers e);
}

still_settled : (now : ℕ) (s : Stream) → IsStill now s → IsStill now (settled s)
unfolding kept trim
still_settled now s h =
    still_only now (trim s) _ (filter_part _ (trim s).messages)
    (still_only now (trim_count (trim_subjects s)) _ (fitting_at_part s.config.max_bytes (trim_count (trim_subjects s)).messages)
    (still_only now (trim_subjects s) _ (drop_part _ (trim_subjects s).messages)
    (still_only now s _ (newest_at_part s.config.max_msgs_per_subject s.messages) h)))

still_map : (now : ℕ) (cs : List Consumer) → All (IsStillConsumer now) cs → map (consumer_at now) cs ≡ cs
still_map now [] h = refl
still_map now (c ∷ cs) h =
    ap (λ (d : Consumer). d ∷ map (consumer_at now) cs) (still_at now c (All-head (IsStillConsumer now) c cs h))
    ∙ ap (λ (ds : List Consumer). c ∷ ds) (still_map now cs (All-tail (IsStillConsumer now) c cs h))

still_sends : (now : ℕ) (cs : List Consumer) → All (IsStillConsumer now) cs → flat_map (consumer_outs now) cs ≡ []
still_sends now [] h = refl
still_sends now (c ∷ cs) h =
    ap (λ (outs : List Out). outs ++ flat_map (consumer_outs now) cs) (still_outs now c (All-head (IsStillConsumer now) c cs h))
    ∙ still_sends now cs (All-tail (IsStillConsumer now) c cs h)

-- the stream as it is, if its consumers have nothing but what is stored
aged_same : (now : ℕ) (s : Stream) → IsStill now s → only s s.messages ≡ s → aged s now ≡ s
aged_same now s h e =
    ap (λ (ms : List Message). record (only s ms) { moment = now; ids = remembered s now }) (all_young s now h.messages)
    ∙ ap (λ (t : Stream). record t { moment = now; ids = remembered s now }) e
    ∙ ap (λ (n : ℕ). record s { moment = n; ids = remembered s now }) (sym h.moment)
    ∙ ap (λ (ids : List Id). record s { ids = ids }) h.ids

still_stays : (now : ℕ) (s : Stream) → IsStill now s → only s s.messages ≡ s → stream_at s now ≡ s
still_stays now s h e =
    ap (λ (a : Stream). record a { consumers = map (consumer_at now) a.consumers }) (aged_same now s h e)
    ∙ ap (λ (cs : List Consumer). record s { consumers = cs }) (still_map now s.consumers h.consumers)

still_silent : (now : ℕ) (s : Stream) → IsStill now s → only s s.messages ≡ s → flat_map (consumer_outs now) (aged s now).consumers ≡ []
still_silent now s h e = ap (λ (a : Stream). flat_map (consumer_outs now) a.consumers) (aged_same now s h e) ∙ still_sends now s.consumers h.consumers

-- ---- what the limits and the retention kept once they keep again

newest_few : (n : ℕ) (ms : List Message) → ((subject : Bytes) → count_by (λ m. same m.subject subject) ms ≤ n) → newest n ms ≡ ms
newest_few n [] h = refl
newest_few n (m ∷ later) h =
    ap (λ (b : Bool). cond b (m ∷ newest n later) (newest n later)) (lt-ltb (count_by (λ x. same x.subject m.subject) later) n fewer)
    ∙ ap (λ (l : List Message). m ∷ l) (newest_few n later rest)
  where
    counted : (subject : Bytes) → count_by (λ x. same x.subject subject) (m ∷ later) ≡ cond (same m.subject subject) 1 0 + count_by (λ x. same x.subject subject) later
    counted subject = count_cons (λ x. same x.subject subject) m later

    fewer : count_by (λ x. same x.subject m.subject) later < n
    fewer =
        let a : count_by (λ x. same x.subject m.subject) (m ∷ later) ≤ n = h m.subject in
        let b : count_by (λ x. same x.subject m.subject) (m ∷ later) ≡ 1 + count_by (λ x. same x.subject m.subject) later = counted m.subject ∙ ap (λ (b : Bool). cond b 1 0 + count_by (λ x. same x.subject m.subject) later) (same_self m.subject) in
        omega arith

    rest : (subject : Bytes) → count_by (λ x. same x.subject subject) later ≤ n
    rest subject =
        let a : count_by (λ x. same x.subject subject) (m ∷ later) ≤ n = h subject in
        let b : count_by (λ x. same x.subject subject) (m ∷ later) ≡ cond (same m.subject subject) 1 0 + count_by (λ x. same x.subject subject) later = counted subject in
        omega arith

newest_at_few : (o : Option ℕ) (ms : List Message) → IfSome o (λ n. (subject : Bytes) → count_by (λ m. same m.subject subject) ms ≤ n) → newest_at o ms ≡ ms
newest_at_few None ms h = refl
newest_at_few (Some n) ms h = newest_few n ms h

fitting_within : (o : Option ℕ) (ms : List Message) → IfSome o (λ n. sum_by size ms ≤ n) → fitting_at o ms ≡ ms
fitting_within None ms h = refl
fitting_within (Some n) ms h = fitting_few n ms h

trim_same : (s : Stream) → AreWithin s s.messages → only s s.messages ≡ s → trim s ≡ s
unfolding trim
trim_same s h e =
    ap (λ (ms : List Message). trim_bytes (trim_count (only s ms))) (newest_at_few s.config.max_msgs_per_subject s.messages h.per_subject) ∙ ap (λ (t : Stream). trim_bytes (trim_count t)) e
    ∙ ap (λ (ms : List Message). trim_bytes (only s ms)) (last_of_few (max_messages s) s.messages h.messages) ∙ ap (λ (t : Stream). trim_bytes t) e
    ∙ ap (λ (ms : List Message). only s ms) (fitting_within s.config.max_bytes s.messages h.bytes) ∙ e

has_filtered : (p : ℕ → Bool) (xs : List ℕ) (n : ℕ) → p n ≡ true → has (filter p xs) n ≡ has xs n
has_filtered p [] n e = refl
has_filtered p (x ∷ xs) n e = go (p x) refl (has_filtered p xs n e)
  where
    apart : (b : Bool) → (x == n) ≡ b → p x ≡ false → b ≡ false
    apart true r q = absurd (true≢false (sym e ∙ sym (ap p (eqb-true x n r)) ∙ q))
    apart false r q = refl

    go : (b : Bool) → p x ≡ b → has (filter p xs) n ≡ has xs n → has (cond b (x ∷ filter p xs) (filter p xs)) n ≡ ((x == n) || has xs n)
    go true q h = ap (λ (b : Bool). (x == n) || b) h
    go false q h = h ∙ sym (ap (λ (b : Bool). b || has xs n) (apart (x == n) refl q))

module _ (ns : List ℕ) (m : Message) (e : has ns m.seq ≡ true) where
  needs_same : (c : Consumer) → needs (confined ns c) m ≡ needs c m
  needs_same c = rw (confined_pending ns c, has_filtered (has ns) c.picks m.seq e, has_filtered (has ns) (pending_seqs c) m.seq e, has_filtered (has ns) c.given_up m.seq e) refl

  any_needs : (cs : List Consumer) → list_any (λ c. needs c m) (map (confined ns) cs) ≡ list_any (λ c. needs c m) cs
  any_needs [] = refl
  any_needs (c ∷ cs) = ap (λ (b : Bool). b || list_any (λ c. needs c m) (map (confined ns) cs)) (needs_same c) ∙ ap (λ (b : Bool). needs c m || b) (any_needs cs)

  any_takes : (cs : List Consumer) → list_any (λ c. takes c m) (map (confined ns) cs) ≡ list_any (λ c. takes c m) cs
  any_takes [] = refl
  any_takes (c ∷ cs) = ap (λ (b : Bool). takes c m || b) (any_takes cs)

  kept_same : (policy : Policy) (cs : List Consumer) → is_kept policy (map (confined ns) cs) m ≡ is_kept policy cs m
  kept_same Limits cs = refl
  kept_same Interest cs = any_needs cs
  kept_same WorkQueue cs = ap (λ (b : Bool). b || not (list_any (λ c. takes c m) (map (confined ns) cs))) (any_needs cs) ∙ ap (λ (b : Bool). list_any (λ c. needs c m) cs || not b) (any_takes cs)

seq_in : (m : Message) (ms : List Message) → IsIn m ms → has (seqs ms) m.seq ≡ true
seq_in m [] i = elim i [ ]
seq_in m (x ∷ xs) here = or_left (m.seq == m.seq) (has (seqs xs) m.seq) (eq-eqb m.seq m.seq refl)
seq_in m (x ∷ xs) (there i) = or_right (x.seq == m.seq) (has (seqs xs) m.seq) (seq_in m xs i)

kept_again : (s : Stream) → kept (kept s) ≡ kept s
unfolding kept
kept_again s = ap (λ (list : List Message). only (only s ms) list) stays ∙ only_again s ms
  where
    ms : List Message
    ms = filter (is_kept s.config.retention s.consumers) s.messages

    stays : filter (is_kept s.config.retention (map (confined (seqs ms)) s.consumers)) ms ≡ ms
    stays = filter_all _ ms (λ m i. kept_same (seqs ms) m (seq_in m ms i) s.config.retention s.consumers ∙ (in_filter (is_kept s.config.retention s.consumers) m s.messages i).1)

own_messages : (s : Stream) → only (settled s) (settled s).messages ≡ settled s
unfolding kept
own_messages s = only_again (trim s) _

within_limits : (s : Stream) → AreWithin (settled s) (settled s).messages
unfolding kept trim
within_limits s = let w = settled_within s in record { per_subject = w.per_subject; messages = w.messages; bytes = w.bytes }

settled_again : (s : Stream) → settled (settled s) ≡ settled s
settled_again s = ap kept (trim_same (settled s) (within_limits s) (own_messages s)) ∙ kept_again (trim s)

-- ---- the ticks

-- a stream that a tick left without sending anything sends nothing by another one, and stays
at_rest : (s : Stream) (now : ℕ) → advance_outs s now ≡ [] → (advance_outs (settled (advance s now)) now ≡ []) × (settled (advance (settled (advance s now)) now) ≡ settled (advance s now))
unfolding advance advance_outs
at_rest s now e = (
  ap (λ (n : ℕ). flat_map (consumer_outs n) (aged t n).consumers) same_moment ∙ still_silent _ t still (own_messages (advance s now)),
  ap settled (ap (stream_at t) same_moment ∙ still_stays _ t still (own_messages (advance s now))) ∙ settled_again (advance s now),
)
  where
    t : Stream
    t = settled (advance s now)

    still : IsStill (max s.moment now) t
    still = still_settled (max s.moment now) (advance s now) (still_after s now e)

    same_moment : max t.moment now ≡ max s.moment now
    same_moment = let m : t.moment ≡ max s.moment now = still.moment in omega arith

-- what a tick answers, sends and leaves
abbrev ticked : State → ℕ → Answer
ticked (Vacant i) now = record { reply = Silent; outs = []; state = Vacant i }
ticked (Live s) now = record { reply = Silent; outs = advance_outs s now ++ []; state = Live (settled (advance s now)) }

tick_answers : (s : State) (e : Event) (now : ℕ) (room : Bool) → e.what ≡ Tick → answered s e now room ≡ ticked s now
unfolding answered
tick_answers (Vacant i) e now room q = ap (λ (w : What). completed [] (vacant_answer i w now room)) q
tick_answers (Live s) e now room q = ap (λ (w : What). completed (advance_outs s now) (stream_answer (advance s now) w room)) q

again : (s : State) (now : ℕ) → (ticked s now).outs ≡ [] → ticked (ticked s now).state now ≡ record { reply = Silent; outs = []; state = (ticked s now).state }
again (Vacant i) now e = refl
again (Live s) now e =
    let w = at_rest s now (empty_parts (advance_outs s now) [] e).0 in
    ap (λ (outs : List Out). record { reply = Silent; outs = outs ++ []; state = Live (settled (advance (settled (advance s now)) now)) }) w.0
    ∙ ap (λ (t : Stream). record { reply = Silent; outs = []; state = Live t }) w.1

pub law_tick : LawTick
law_tick count later now old mid new first second reply repeated outs x e y f = (sym (ap (λ (a : Answer). a.state) rests), sym (ap (λ (a : Answer). a.outs) rests))
  where
    once : ticked old now ≡ record { reply = reply; outs = []; state = mid }
    once = sym (tick_answers old first now x.event.room e) ∙ x.event.answers

    twice : ticked mid now ≡ record { reply = repeated; outs = outs; state = new }
    twice = sym (tick_answers mid second now y.event.room f) ∙ y.event.answers

    first_answer : Answer
    first_answer = record { reply = Silent; outs = []; state = mid }

    rests : first_answer ≡ record { reply = repeated; outs = outs; state = new }
    rests =
        sym (subst (λ (s : State). ticked s now ≡ record { reply = Silent; outs = []; state = s }) (ap (λ (a : Answer). a.state) once) (again old now (ap (λ (a : Answer). a.outs) once)))
        ∙ twice

-- Where no timer lies between two moments, each of the machine's tests gives the same at both.
use Rattle.std.proofs.Common.{◌≡◌, ℕ, ◌<◌, ◌≤◌, Bool, true, false, ◌&&◌, cond, List, [], ◌∷◌, ◌++◌, map, refl, sym, ap, ◌∙◌, arith}
use Rattle.std.specs.Prelude.{Option, Some, None, filter, nat_lt, nat_le, ◌==◌, All}
use Rattle.std.specs.List.{flat_map}
use Rattle.std.specs.Option.{option_to_list}
use Rattle.std.proofs.lemmas.Bool.{true≢false, le-leb, lt-leb, leb-true, leb-false, lt-ltb, le-ltb}
use Rattle.std.proofs.lemmas.List.Elements.{All-nil, All-cons, All-head, All-tail, All-filter, All-weaker}
use Rattle.js_base.specs.Bytes.{has}
use Rattle.js_base.specs.Moments.{plus}
use Rattle.js_model.specs.declared.stream.Message.{Message}
use Rattle.js_model.specs.declared.stream.Id.{Id}
use Rattle.js_model.specs.declared.stream.Stream.{Stream}
use Rattle.js_model.specs.declared.consumer.Pending.{Pending}
use Rattle.js_model.specs.declared.consumer.Pull.{Pull}
use Rattle.js_model.specs.declared.consumer.Consumer.{Consumer}
use Rattle.js_model.specs.Streams.{confined, is_push, at_limit, below_limit}
use Rattle.js_model.specs.Advance.{is_over, has_come, pull_comes, push_comes, is_spent, young, remembered}
use Rattle.js_model.specs.Deliver.{is_due}
use Rattle.timers.specs.Timers.{beat_timers, pull_timers, pending_timers, consumer_timers, age_timers, id_timers, later, stream_timers}
use Rattle.timer_laws.proofs.Lists.{all_left, all_right, all_mapped, all_each, filter_same}

-- ---- one moment

-- it has come at both, or at neither
abbrev pub Agrees : ℕ → ℕ → ℕ → Type 0
Agrees moment now x = nat_le x now ≡ nat_le x moment

agrees : (moment now x : ℕ) → moment ≤ now → (moment < x → now < x) → Agrees moment now x
agrees moment now x le h = go (nat_le x moment) refl
  where
    go : (b : Bool) → nat_le x moment ≡ b → nat_le x now ≡ b
    go true e = le-leb x now (let w : x ≤ moment = leb-true x moment e in omega arith)
    go false e = lt-leb x now (h (leb-false x moment e))

all_agree : (moment now : ℕ) (xs : List ℕ) → moment ≤ now → All (λ x. now < x) (later moment xs) → All (Agrees moment now) xs
all_agree moment now [] le h = All-nil (Agrees moment now)
all_agree moment now (x ∷ xs) le h = go (nat_lt moment x) refl h (all_agree moment now xs le)
  where
    go : (b : Bool) → nat_lt moment x ≡ b → All (λ y. now < y) (cond b (x ∷ later moment xs) (later moment xs))
        → (All (λ y. now < y) (later moment xs) → All (Agrees moment now) xs) → All (Agrees moment now) (x ∷ xs)
    go true e k f =
        All-cons (Agrees moment now) x xs (agrees moment now x le (λ l. All-head (λ y. now < y) x (later moment xs) k)) (f (All-tail (λ y. now < y) x (later moment xs) k))
    go false e k f = All-cons (Agrees moment now) x xs (agrees moment now x le (λ l. absurd (true≢false (sym (lt-ltb moment x l) ∙ e)))) (f k)

-- the moment is still to come at both, or at neither
still_agrees : (moment now x : ℕ) → Agrees moment now x → nat_lt now x ≡ nat_lt moment x
still_agrees moment now x h = go (nat_le x moment) refl
  where
    go : (b : Bool) → nat_le x moment ≡ b → nat_lt now x ≡ nat_lt moment x
    go true e = le-ltb now x (leb-true x now (h ∙ e)) ∙ sym (le-ltb moment x (leb-true x moment e))
    go false e = lt-ltb now x (leb-false x now (h ∙ e)) ∙ sym (lt-ltb moment x (leb-false x moment e))

-- ---- a consumer

-- what each test of a consumer gives
pub record IsAgreeing (moment now : ℕ) (c : Consumer) : Type 0 where
  pub over : All (λ p. is_over now p ≡ is_over moment p) c.waiting
  pub beats : All (λ p. pull_comes now p ≡ pull_comes moment p) c.waiting
  pub own : push_comes now c ≡ push_comes moment c
  pub entries : All (λ p. Agrees moment now p.due) c.pending

beat_agrees : (moment now mark heartbeat : ℕ) → All (Agrees moment now) (beat_timers mark heartbeat) → has_come now mark heartbeat ≡ has_come moment mark heartbeat
beat_agrees moment now mark heartbeat h = go (nat_lt 0 heartbeat) h
  where
    go : (b : Bool) → All (Agrees moment now) (cond b (plus mark heartbeat ∷ []) []) → (b && nat_le (plus mark heartbeat) now) ≡ (b && nat_le (plus mark heartbeat) moment)
    go true k = All-head (Agrees moment now) (plus mark heartbeat) [] k
    go false k = refl

over_agrees : (moment now : ℕ) (p : Pull) (end : Option ℕ) → All (Agrees moment now) (option_to_list end) → is_over now (record p { end = end }) ≡ is_over moment (record p { end = end })
over_agrees moment now p None h = refl
over_agrees moment now p (Some end) h = All-head (Agrees moment now) end [] h

own_agrees : (moment now : ℕ) (c : Consumer) (push : Bool) → All (Agrees moment now) (cond push (beat_timers c.mark c.config.idle_heartbeat) [])
    → (push && has_come now c.mark c.config.idle_heartbeat) ≡ (push && has_come moment c.mark c.config.idle_heartbeat)
own_agrees moment now c true h = beat_agrees moment now c.mark c.config.idle_heartbeat h
own_agrees moment now c false h = refl

abbrev pulls_of : Consumer → List ℕ
pulls_of c = flat_map pull_timers c.waiting

abbrev own_of : Consumer → List ℕ
own_of c = cond (is_push c) (beat_timers c.mark c.config.idle_heartbeat) []

agreeing_consumer : (moment now : ℕ) (c : Consumer) → All (Agrees moment now) (consumer_timers c) → IsAgreeing moment now c
agreeing_consumer moment now c h = record {
  over = All-weaker Pulled (λ p. is_over now p ≡ is_over moment p) (λ p k. over_agrees moment now p p.end (all_left (Agrees moment now) (option_to_list p.end) (beat_timers p.mark p.heartbeat) k)) c.waiting pulls;
  beats =
      All-weaker Pulled (λ p. pull_comes now p ≡ pull_comes moment p)
      (λ p k. beat_agrees moment now p.mark p.heartbeat (all_right (Agrees moment now) (option_to_list p.end) (beat_timers p.mark p.heartbeat) k)) c.waiting pulls;
  own = own_agrees moment now c (is_push c) (all_right (Agrees moment now) (pulls_of c) (own_of c) first);
  entries = all_mapped (Agrees moment now) (λ p. p.due) c.pending (all_right (Agrees moment now) (pulls_of c ++ own_of c) (pending_timers c) h);
}
  where
    first : All (Agrees moment now) (pulls_of c ++ own_of c)
    first = all_left (Agrees moment now) (pulls_of c ++ own_of c) (pending_timers c) h

    Pulled : Pull → Type 0
    Pulled p = All (Agrees moment now) (pull_timers p)

    pulls : All Pulled c.waiting
    pulls = all_each (Agrees moment now) pull_timers c.waiting (all_left (Agrees moment now) (pulls_of c) (own_of c) first)

pub agreeing_confined : (moment now : ℕ) (ns : List ℕ) (c : Consumer) → IsAgreeing moment now c → IsAgreeing moment now (confined ns c)
agreeing_confined moment now ns c h = record { over = h.over; beats = h.beats; own = h.own; entries = All-filter (λ p. has ns p.seq) (λ p. Agrees moment now p.due) c.pending h.entries }

pub spent_agrees : (moment now : ℕ) (c : Consumer) (p : Pending) → Agrees moment now p.due → is_spent now c p ≡ is_spent moment c p
spent_agrees moment now c p h = ap (λ (b : Bool). b && at_limit p.count c.config.max_deliver) h

pub due_agrees : (moment now : ℕ) (c : Consumer) (p : Pending) → Agrees moment now p.due → is_due now c p ≡ is_due moment c p
due_agrees moment now c p h = ap (λ (b : Bool). b && below_limit p.count c.config.max_deliver) h

-- ---- a stream

pub record AgreeAll (moment now : ℕ) (s : Stream) : Type 0 where
  pub messages : young s now ≡ young s moment
  pub ids : remembered s now ≡ remembered s moment
  pub consumers : All (IsAgreeing moment now) s.consumers

young_agrees : (moment now : ℕ) (s : Stream) → All (Agrees moment now) (age_timers s) → young s now ≡ young s moment
young_agrees moment now s h = go (s.config.max_age == 0) h
  where
    go : (b : Bool) → All (Agrees moment now) (cond b [] (map (λ m. plus m.at s.config.max_age) s.messages))
        → cond b s.messages (filter (λ m. nat_lt now (plus m.at s.config.max_age)) s.messages) ≡ cond b s.messages (filter (λ m. nat_lt moment (plus m.at s.config.max_age)) s.messages)
    go true k = refl
    go false k =
        filter_same (λ m. nat_lt now (plus m.at s.config.max_age)) (λ m. nat_lt moment (plus m.at s.config.max_age)) s.messages
        (All-weaker (λ m. Agrees moment now (plus m.at s.config.max_age)) (λ m. nat_lt now (plus m.at s.config.max_age) ≡ nat_lt moment (plus m.at s.config.max_age)) (λ m q. still_agrees moment now (plus m.at s.config.max_age) q)
        s.messages (all_mapped (Agrees moment now) (λ (m : Message). plus m.at s.config.max_age) s.messages k))

ids_agree : (moment now : ℕ) (s : Stream) → All (Agrees moment now) (id_timers s) → remembered s now ≡ remembered s moment
ids_agree moment now s h =
    filter_same (λ i. nat_lt now (plus i.at s.config.duplicate_window)) (λ i. nat_lt moment (plus i.at s.config.duplicate_window)) s.ids
    (All-weaker (λ i. Agrees moment now (plus i.at s.config.duplicate_window)) (λ i. nat_lt now (plus i.at s.config.duplicate_window) ≡ nat_lt moment (plus i.at s.config.duplicate_window))
    (λ i q. still_agrees moment now (plus i.at s.config.duplicate_window) q) s.ids (all_mapped (Agrees moment now) (λ (i : Id). plus i.at s.config.duplicate_window) s.ids h))

pub stream_agrees : (s : Stream) (now : ℕ) → s.moment ≤ now → All (λ x. now < x) (stream_timers s) → AgreeAll s.moment now s
stream_agrees s now le h = record {
  messages = young_agrees s.moment now s (all_left Agreed (age_timers s) (id_timers s) stored);
  ids = ids_agree s.moment now s (all_right Agreed (age_timers s) (id_timers s) stored);
  consumers =
      All-weaker (λ c. All Agreed (consumer_timers c)) (IsAgreeing s.moment now) (λ c k. agreeing_consumer s.moment now c k) s.consumers
      (all_each Agreed consumer_timers s.consumers (all_right Agreed (age_timers s ++ id_timers s) (flat_map consumer_timers s.consumers) all));
}
  where
    Agreed : ℕ → Type 0
    Agreed = Agrees s.moment now

    all : All Agreed (age_timers s ++ id_timers s ++ flat_map consumer_timers s.consumers)
    all = all_agree s.moment now (age_timers s ++ id_timers s ++ flat_map consumer_timers s.consumers) le h

    stored : All Agreed (age_timers s ++ id_timers s)
    stored = all_left Agreed (age_timers s ++ id_timers s) (flat_map consumer_timers s.consumers) all

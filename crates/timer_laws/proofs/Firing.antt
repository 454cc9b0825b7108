-- A state is quiet only before each of its timers.
use Rattle.std.proofs.Common.{◌≡◌, ℕ, ◌<◌, ◌≤◌, Bool, true, false, ◌&&◌, not, cond, List, [], ◌∷◌, ◌++◌, map, refl, sym, ap, ◌∙◌, subst, arith}
use Rattle.std.specs.Prelude.{Option, Some, None, IfSome, filter, nat_lt, nat_le, ◌==◌, All}
use Rattle.std.specs.List.{flat_map}
use Rattle.std.specs.Option.{option_to_list}
use Rattle.std.proofs.lemmas.Bool.{true≢false, leb-false, ltb-true, ltb-false, eqb-false, lt-leb, lt-ltb, le-ltb}
use Rattle.std.proofs.lemmas.List.Elements.{All-nil, All-cons, All-head, All-tail, All-map, All-append, All-weaker}
use Rattle.std.proofs.lemmas.Simd.{map-map}
use Rattle.std.proofs.lemmas.List.Folds.{flat_map-map}
use Rattle.js_base.specs.Bytes.{has}
use Rattle.js_base.specs.Moments.{plus}
use Rattle.js_model.specs.declared.stream.Message.{Message}
use Rattle.js_model.specs.declared.stream.Id.{Id}
use Rattle.js_model.specs.declared.stream.Stream.{Stream}
use Rattle.js_model.specs.declared.stream.State.TheVariants.{Vacant, Live}
use Rattle.js_model.specs.declared.consumer.Pending.{Pending}
use Rattle.js_model.specs.declared.consumer.Pull.{Pull}
use Rattle.js_model.specs.declared.consumer.Consumer.{Consumer}
use Rattle.js_model.specs.Streams.{seqs, confined, is_push, at_limit, below_limit, over_limit}
use Rattle.js_model.specs.Advance.{advance, advance_outs, stream_at, aged, young, remembered, consumer_at, consumer_outs, is_spent, is_over, has_come, pull_comes}
use Rattle.js_model.specs.Deliver.{is_due}
use Rattle.js_model.proofs.Members.{IsIn, in_filter}
use Rattle.timers.specs.Timers.{beat_timers, pull_timers, pending_timers, consumer_timers, age_timers, id_timers, later, stream_timers, timers}
use Rattle.timer_laws.specs.Quiet.{NoneFallsDue, IsQuietStream}
use Rattle.model_laws.specs.Sound.{IsCounted, IsWellStoredConsumer}
use Rattle.timer_laws.specs.Laws.{LawFiring}
use Rattle.timer_laws.proofs.Lists.{all_members, all_both, all_pass, each_all, each_empty, each_fixed}
use Rattle.timer_laws.proofs.Passing.{IsUntold, untold, later_of}

-- ---- one moment

-- it is not among the timers, or still to come
abbrev IsAhead : ℕ → ℕ → ℕ → Type 0
IsAhead moment now x = moment < x → now < x

ahead_later : (moment now : ℕ) (xs : List ℕ) → All (IsAhead moment now) xs → All (λ x. now < x) (later moment xs)
ahead_later moment now [] h = All-nil (λ x. now < x)
ahead_later moment now (x ∷ xs) h = go (nat_lt moment x) refl (ahead_later moment now xs (All-tail (IsAhead moment now) x xs h))
  where
    go : (b : Bool) → nat_lt moment x ≡ b → All (λ y. now < y) (later moment xs) → All (λ y. now < y) (cond b (x ∷ later moment xs) (later moment xs))
    go true e k = All-cons (λ y. now < y) x (later moment xs) (All-head (IsAhead moment now) x xs h (ltb-true moment x e)) k
    go false e k = k

-- ---- a count

within : (n : ℕ) (limit : Option ℕ) → IfSome limit (λ limit. n ≤ limit) → over_limit n limit ≡ false
within n None h = refl
within n (Some limit) h = le-ltb limit n h

-- no entry was delivered more often than its consumer allows
abbrev AreWithinLimit : Consumer → Type 0
AreWithinLimit c = All (λ p. over_limit p.count c.config.max_deliver ≡ false) c.pending

are_within : (s : Stream) → All (IsWellStoredConsumer s.messages s.last) s.consumers → All AreWithinLimit s.consumers
are_within s h =
    All-weaker (IsWellStoredConsumer s.messages s.last) AreWithinLimit
    (λ c k. All-weaker (IsCounted c.dseq c.config.max_deliver) (λ p. over_limit p.count c.config.max_deliver ≡ false) (λ p q. within p.count c.config.max_deliver q.within) c.pending k.counts)
    s.consumers h

-- ---- a pull, and the heartbeats of a consumer

module _ (moment now : ℕ) where
  beat_ahead : (mark heartbeat : ℕ) → has_come now mark heartbeat ≡ false → All (IsAhead moment now) (beat_timers mark heartbeat)
  beat_ahead mark heartbeat e = go (nat_lt 0 heartbeat) e
    where
      go : (b : Bool) → (b && nat_le (plus mark heartbeat) now) ≡ false → All (IsAhead moment now) (cond b (plus mark heartbeat ∷ []) [])
      go true k = All-cons (IsAhead moment now) (plus mark heartbeat) [] (λ l. leb-false (plus mark heartbeat) now k) (All-nil (IsAhead moment now))
      go false k = All-nil (IsAhead moment now)

  end_ahead : (p : Pull) (end : Option ℕ) → is_over now (record p { end = end }) ≡ false → All (IsAhead moment now) (option_to_list end)
  end_ahead p None e = All-nil (IsAhead moment now)
  end_ahead p (Some end) e = All-cons (IsAhead moment now) end [] (λ l. leb-false end now e) (All-nil (IsAhead moment now))

  pull_ahead : (p : Pull) → is_over now p ≡ false → pull_comes now p ≡ false → All (IsAhead moment now) (pull_timers p)
  pull_ahead p e f = All-append (IsAhead moment now) (option_to_list p.end) (beat_timers p.mark p.heartbeat) (end_ahead p p.end e) (beat_ahead p.mark p.heartbeat f)

  own_ahead : (c : Consumer) (push : Bool) → (push && has_come now c.mark c.config.idle_heartbeat) ≡ false → All (IsAhead moment now) (cond push (beat_timers c.mark c.config.idle_heartbeat) [])
  own_ahead c true e = beat_ahead c.mark c.config.idle_heartbeat e
  own_ahead c false e = All-nil (IsAhead moment now)

  -- ---- the entries

  -- a count that is not at its limit and not above it is below it
  below : (n : ℕ) (limit : Option ℕ) → at_limit n limit ≡ false → over_limit n limit ≡ false → below_limit n limit ≡ true
  below n None e f = refl
  below n (Some limit) e f = lt-ltb n limit (let a : n ≡ limit → ⊥ = eqb-false n limit e in let b : n ≤ limit = ltb-false limit n f in omega arith)

  -- one that comes by then would be given up, or fall due
  entry_ahead : (c : Consumer) (p : Pending) → over_limit p.count c.config.max_deliver ≡ false → is_spent now c p ≡ false → is_due now c p ≡ is_due moment c p → IsAhead moment now p.due
  entry_ahead c p w e f l = go (nat_le p.due now) refl e (sym (ap (λ (b : Bool). b && below_limit p.count c.config.max_deliver) (lt-leb p.due moment l)) ∙ sym f)
    where
      due : at_limit p.count c.config.max_deliver ≡ false → false ≡ below_limit p.count c.config.max_deliver → now < p.due
      due k q = absurd (true≢false (sym (below p.count c.config.max_deliver k w) ∙ sym q))

      go : (b : Bool) → nat_le p.due now ≡ b → (b && at_limit p.count c.config.max_deliver) ≡ false → false ≡ (b && below_limit p.count c.config.max_deliver) → now < p.due
      go true q k m = due k m
      go false q k m = leb-false p.due now q

  -- no entry is taken out
  unspent : (ns : List ℕ) (c : Consumer) → consumer_at now (confined ns c) ≡ c → All (λ p. is_spent now c p ≡ false) c.pending
  unspent ns c e = all_members (λ p. is_spent now c p ≡ false) c.pending (λ p i. not_true (is_spent now c p) (passes p i))
    where
      left : filter (λ p. not (is_spent now c p)) (filter (λ p. has ns p.seq) c.pending) ≡ c.pending
      left = ap (λ (d : Consumer). d.pending) e

      passes : (p : Pending) → IsIn p c.pending → not (is_spent now c p) ≡ true
      passes p i = (in_filter (λ p. not (is_spent now c p)) p (filter (λ p. has ns p.seq) c.pending) (subst (IsIn p) (sym left) i)).1

      not_true : (b : Bool) → not b ≡ true → b ≡ false
      not_true true q = absurd (true≢false (sym q))
      not_true false q = refl

  consumer_ahead : (ns : List ℕ) (c : Consumer) → AreWithinLimit c → NoneFallsDue moment now c → consumer_at now (confined ns c) ≡ c → IsUntold now c → All (IsAhead moment now) (consumer_timers c)
  consumer_ahead ns c w f e k =
      All-append (IsAhead moment now) (flat_map pull_timers c.waiting ++ cond (is_push c) (beat_timers c.mark c.config.idle_heartbeat) []) (pending_timers c)
      (All-append (IsAhead moment now) (flat_map pull_timers c.waiting) (cond (is_push c) (beat_timers c.mark c.config.idle_heartbeat) []) pulls (own_ahead c (is_push c) k.own))
      (All-map (IsAhead moment now) (λ (p : Pending). p.due) c.pending entries)
    where
      pulls : All (IsAhead moment now) (flat_map pull_timers c.waiting)
      pulls =
          each_all (IsAhead moment now) pull_timers c.waiting
          (all_both (λ p. is_over now p ≡ false) (λ p. pull_comes now p ≡ false) (λ p. All (IsAhead moment now) (pull_timers p)) (λ p q r. pull_ahead p q r) c.waiting k.over k.beats)

      -- it is not given up, and was not delivered too often
      IsWaiting : Pending → Type 0
      IsWaiting p = (over_limit p.count c.config.max_deliver ≡ false) × (is_spent now c p ≡ false)

      waiting : All IsWaiting c.pending
      waiting = all_both (λ p. over_limit p.count c.config.max_deliver ≡ false) (λ p. is_spent now c p ≡ false) IsWaiting (λ p q r. (q, r)) c.pending w (unspent ns c e)

      entries : All (λ p. IsAhead moment now p.due) c.pending
      entries = all_both IsWaiting (λ p. is_due now c p ≡ is_due moment c p) (λ p. IsAhead moment now p.due) (λ p q r. entry_ahead c p q.0 q.1 r) c.pending waiting f

-- ---- a stream

ages_ahead : (s : Stream) (now : ℕ) → young s now ≡ s.messages → All (IsAhead s.moment now) (age_timers s)
ages_ahead s now e = go (s.config.max_age == 0) e
  where
    go : (b : Bool) → cond b s.messages (filter (λ m. nat_lt now (plus m.at s.config.max_age)) s.messages) ≡ s.messages → All (IsAhead s.moment now) (cond b [] (map (λ m. plus m.at s.config.max_age) s.messages))
    go true k = All-nil (IsAhead s.moment now)
    go false k =
        All-map (IsAhead s.moment now) (λ (m : Message). plus m.at s.config.max_age) s.messages
        (All-weaker (λ m. nat_lt now (plus m.at s.config.max_age) ≡ true) (λ m. IsAhead s.moment now (plus m.at s.config.max_age)) (λ m q l. ltb-true now (plus m.at s.config.max_age) q) s.messages
        (all_pass (λ m. nat_lt now (plus m.at s.config.max_age)) s.messages k))

ids_ahead : (s : Stream) (now : ℕ) → remembered s now ≡ s.ids → All (IsAhead s.moment now) (id_timers s)
ids_ahead s now e =
    All-map (IsAhead s.moment now) (λ (i : Id). plus i.at s.config.duplicate_window) s.ids
    (All-weaker (λ i. nat_lt now (plus i.at s.config.duplicate_window) ≡ true) (λ i. IsAhead s.moment now (plus i.at s.config.duplicate_window)) (λ i q l. ltb-true now (plus i.at s.config.duplicate_window) q) s.ids
    (all_pass (λ i. nat_lt now (plus i.at s.config.duplicate_window)) s.ids e))

fires : (s : Stream) (now : ℕ) → All AreWithinLimit s.consumers → s.moment ≤ now → IsQuietStream s now → All (λ x. now < x) (stream_timers s)
unfolding advance advance_outs
fires s now w le h =
    ahead_later s.moment now (age_timers s ++ id_timers s ++ flat_map consumer_timers s.consumers)
    (All-append (IsAhead s.moment now) (age_timers s ++ id_timers s) (flat_map consumer_timers s.consumers)
    (All-append (IsAhead s.moment now) (age_timers s) (id_timers s) (ages_ahead s now (ap (λ (t : Stream). t.messages) stays)) (ids_ahead s now (ap (λ (t : Stream). t.ids) stays)))
    (each_all (IsAhead s.moment now) consumer_timers s.consumers consumers))
  where
    stays : stream_at s now ≡ record s { moment = now }
    stays = sym (ap (stream_at s) (later_of s.moment now le)) ∙ h.stays

    silent : flat_map (consumer_outs now) (aged s now).consumers ≡ []
    silent = sym (ap (λ (n : ℕ). flat_map (consumer_outs n) (aged s n).consumers) (later_of s.moment now le)) ∙ h.silent

    stored : Consumer → Consumer
    stored c = confined (seqs (young s now)) c

    each_untold : All (λ c. IsUntold now c) s.consumers
    each_untold = All-weaker (λ c. consumer_outs now (stored c) ≡ []) (λ c. IsUntold now c) (λ c e. of (untold now (stored c) e)) s.consumers (each_empty (λ c. consumer_outs now (stored c)) s.consumers (sym (flat_map-map (consumer_outs now) stored s.consumers) ∙ silent))
      where
        of : {c : Consumer} → IsUntold now (stored c) → IsUntold now c
        of k = record { over = k.over; beats = k.beats; own = k.own }

    each_stays : All (λ c. consumer_at now (stored c) ≡ c) s.consumers
    each_stays = each_fixed (λ c. consumer_at now (stored c)) s.consumers (sym (map-map (consumer_at now) stored s.consumers) ∙ ap (λ (t : Stream). t.consumers) stays)

    -- its entries are within their limit, and none falls due
    IsLeft : Consumer → Type 0
    IsLeft c = AreWithinLimit c × NoneFallsDue s.moment now c

    Stands : Consumer → Type 0
    Stands c = (consumer_at now (stored c) ≡ c) × IsUntold now c

    consumers : All (λ c. All (IsAhead s.moment now) (consumer_timers c)) s.consumers
    consumers =
        all_both IsLeft Stands (λ c. All (IsAhead s.moment now) (consumer_timers c)) (λ c k m. consumer_ahead s.moment now (seqs (young s now)) c k.0 k.1 m.0 m.1) s.consumers
        (all_both AreWithinLimit (NoneFallsDue s.moment now) IsLeft (λ c k m. (k, m)) s.consumers w h.due)
        (all_both (λ c. consumer_at now (stored c) ≡ c) (λ c. IsUntold now c) Stands (λ c k m. (k, m)) s.consumers each_stays each_untold)

pub law_firing : LawFiring
unfolding timers
law_firing (Vacant i) now w le h = All-nil (λ x. now < x)
law_firing (Live s) now w le h = fires s now (are_within s w.consumers) le h

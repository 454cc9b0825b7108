-- A message is sent at most max_deliver times.
use Rattle.std.proofs.Common.{◌≡◌, ℕ, ◌+◌, ◌-◌, ◌<◌, ◌≤◌, Bool, true, false, ◌≢◌, ◌^◌, ◌&&◌, ◌||◌, not, cond, List, [], ◌∷◌, ◌++◌, map, length, refl, sym, ap, ◌∙◌, subst, arith, ◌⊎◌, inl, inr}
use Rattle.std.specs.Prelude.{Option, Some, None, filter, nat_le, ◌==◌, IfSome}
use Rattle.std.specs.List.{list_any}
use Rattle.std.proofs.lemmas.Bool.{true≢false, eqb-true, eqb-false, ltb-true, and_parts, false_from_ne_true, not-true, or_left}
use Rattle.js_base.specs.Bytes.{Bytes, same, has}
use Rattle.js_base.specs.Moments.{plus}
use Rattle.js_base.specs.declared.out.Out.{Out}
use Rattle.js_model.specs.declared.consumer_config.ConsumerConfig.{ConsumerConfig}
use Rattle.js_model.specs.declared.stream.Message.{Message}
use Rattle.js_model.specs.declared.stream.Stream.{Stream}
use Rattle.js_model.specs.declared.stream.State.{State}
use Rattle.js_model.specs.declared.stream.State.TheVariants.{Vacant, Live}
use Rattle.js_model.specs.declared.consumer.Pending.{Pending}
use Rattle.js_model.specs.declared.consumer.Consumer.{Consumer}
use Rattle.js_model.specs.declared.ack.AckKind.{AckKind}
use Rattle.js_model.specs.declared.ack.AckKind.TheVariants.{Ack as Acknowledge, Nak, Wpi, Next, Term}
use Rattle.js_model.specs.declared.entry.Delivered.{Delivered}
use Rattle.js_model.specs.declared.entry.Delivered.TheVariants.{Sent, TooSmall, Emptied}
use Rattle.js_model.specs.declared.entry.Delivery.{Delivery}
use Rattle.js_model.specs.declared.entry.PlaceEntry.{PlaceEntry}
use Rattle.js_model.specs.declared.entry.PlaceEntry.TheVariants.{Step, Deliver, Broken}
use Rattle.js_model.specs.declared.entry.Call.TheVariants.{Step as StepOf, Deliver as DeliverOf}
use Rattle.js_model.specs.Lists.{Lacks}
use Rattle.js_model.specs.Streams.{confined, pending_seqs, is_unacknowledged, below_limit}
use Rattle.js_model.specs.Advance.{advance, consumer_at, is_spent}
use Rattle.js_model.specs.Acknowledge.{acknowledged, moved}
use Rattle.js_model.specs.Pulls.{pulled}
use Rattle.js_model.specs.Deliver.{Delivers, IsDelivery, sent_to, with_pending, count_of, is_due, without_first}
use Rattle.js_model.specs.Runs.{RunFrom, new_messages}
use Rattle.model_laws.proofs.Whole.{IsCounted, IsSoundConsumer, IsSoundStream, IsSoundState}
use Rattle.model_laws.specs.OneConsumer.{drops, consumer_of}
use Rattle.model_laws.specs.Sendings.{Sending, sending_of, sending_to, sendings}
use Rattle.model_laws.specs.Limits.{times_sent}
use Rattle.js_model.proofs.Named.{same_is, same_self, none_some}
use Rattle.js_model.proofs.Lacking.{lacks-head}
use Rattle.model_laws.proofs.SoundParts.{has-filter}
use Rattle.js_model.proofs.Members.{IsIn, in_filter, find_one, found_in, all_in}
use Rattle.js_model.proofs.Candidates.{IsReason, again, picked, onward, candidate_is}
use Rattle.model_laws.proofs.SoundAcks.{moved-seq, All-by_name}
use Rattle.model_laws.proofs.SoundSent.{count_waiting, count_absent, one_at_least, limit_of}
use Rattle.model_laws.proofs.Sounding.{sound_step, sound_delivery, sound_found}
use Rattle.model_laws.proofs.Settled.{IsPassed, passed_kept, passed_sent, picks_pulled}
use Rattle.model_laws.proofs.Acked.{entry_passed}
use Rattle.model_laws.proofs.Redelivery.{in_map, in_with_pending, pending_found}
use Rattle.model_laws.proofs.Consecutive.{append_nil}
use Rattle.model_laws.proofs.StoredBefore.{HasConfig, config_kept, config_delivery}
use Rattle.model_laws.proofs.Ordering.{stands_of}
use Rattle.model_laws.proofs.ConsumerFacts.{IsKept, InStream, InState, in_event, in_delivery, its}

-- ---- how often a sequence may still be sent

-- the consumer has delivered the sequence, and its entry leaves r more deliveries
record IsBound (n limit r : ℕ) (c : Consumer) : Type 0 where
  passed : IsPassed n c
  bound : (p : Pending) → IsIn p c.pending → p.seq ≡ n → limit ≤ p.count + r

-- the sequence may be sent at most r more times
abbrev HasQuota : ℕ → ℕ → ℕ → Consumer → Type 0
HasQuota n limit r c = (limit ≤ r) ⊎ IsBound n limit r c

bound_filter : (n limit r : ℕ) (t : Pending → Bool) (c d : Consumer) → d.pending ≡ filter t c.pending → IsPassed n d → IsBound n limit r c → IsBound n limit r d
bound_filter n limit r t c d e k h = record { passed = k; bound = λ p i q. h.bound p (in_filter t p c.pending (subst (IsIn p) e i)).0 q }

moved-count : (n due : ℕ) (p : Pending) → (moved n due p).count ≡ p.count
moved-count n due p = go (p.seq == n)
  where
    go : (b : Bool) → (cond b (record p { due = due }) p).count ≡ p.count
    go true = refl
    go false = refl

bound_moved : (n limit r k due : ℕ) (c d : Consumer) → d.pending ≡ map (moved k due) c.pending → IsPassed n d → IsBound n limit r c → IsBound n limit r d
bound_moved n limit r k due c d e s h = record { passed = s; bound = bound }
  where
    bound : (p : Pending) → IsIn p d.pending → p.seq ≡ n → limit ≤ p.count + r
    bound p i q =
        let w = in_map (moved k due) p c.pending (subst (IsIn p) e i) in
        let l : limit ≤ w.0.count + r = h.bound w.0 w.1 (sym (moved-seq k due w.0) ∙ ap (λ (z : Pending). z.seq) w.2 ∙ q) in
        let m : w.0.count ≡ p.count = sym (moved-count k due w.0) ∙ ap (λ (z : Pending). z.count) w.2 in omega arith

bound_acknowledged : (n limit r now k : ℕ) (kind : AckKind) (c : Consumer) → IsBound n limit r c → IsBound n limit r (acknowledged now k kind c)
bound_acknowledged n limit r now k Acknowledge c h = bound_filter n limit r _ c (acknowledged now k Acknowledge c) refl ((passed_kept n).acknowledged now k Acknowledge c h.passed) h
bound_acknowledged n limit r now k (Nak delay) c h = bound_moved n limit r k (plus now delay) c (acknowledged now k (Nak delay) c) refl ((passed_kept n).acknowledged now k (Nak delay) c h.passed) h
bound_acknowledged n limit r now k Wpi c h = bound_moved n limit r k (plus now c.config.ack_wait) c (acknowledged now k Wpi c) refl ((passed_kept n).acknowledged now k Wpi c h.passed) h
bound_acknowledged n limit r now k (Next ask) c h = bound_filter n limit r _ c (acknowledged now k (Next ask) c) refl ((passed_kept n).acknowledged now k (Next ask) c h.passed) h
bound_acknowledged n limit r now k Term c h = bound_filter n limit r _ c (acknowledged now k Term c) refl ((passed_kept n).acknowledged now k Term c h.passed) h

-- what is kept of a bound is kept of a quota
quota_map : (n limit r : ℕ) (c d : Consumer) → (IsBound n limit r c → IsBound n limit r d) → HasQuota n limit r c → HasQuota n limit r d
quota_map n limit r c d f (inl h) = inl h
quota_map n limit r c d f (inr h) = inr (f h)

quota_kept : (n limit r : ℕ) → IsKept (HasQuota n limit r)
quota_kept n limit r = record {
  confined = λ ns c h. quota_map n limit r c (confined ns c) (λ k. bound_filter n limit r (λ p. has ns p.seq) c (confined ns c) refl ((passed_kept n).confined ns c k.passed) k) h;
  time = λ now c h. quota_map n limit r c (consumer_at now c) (λ k. bound_filter n limit r (λ p. not (is_spent now c p)) c (consumer_at now c) refl ((passed_kept n).time now c k.passed) k) h;
  acknowledged = λ now k kind c h. quota_map n limit r c (acknowledged now k kind c) (bound_acknowledged n limit r now k kind c) h;
  pulled = λ now reply ask c h. quota_map n limit r c (pulled now reply ask c) (λ k. record { passed = (passed_kept n).pulled now reply ask c k.passed; bound = λ p i q. k.bound p (subst (IsIn p) (picks_pulled now reply ask c).2 i) q }) h;
}

-- ---- a delivery

-- the entries of the sequence after a delivery of m
after_entries : (n : ℕ) (messages : List Message) (last now : ℕ) (m : Message) (c : Consumer) (P : ℕ → Type 0) → IsSoundConsumer messages last c
    → (m.seq ≡ n → P (count_of c m.seq + 1)) → (m.seq ≢ n → (p : Pending) → IsIn p c.pending → p.seq ≡ n → P p.count)
    → (p : Pending) → IsIn p (sent_to now m c).pending → p.seq ≡ n → P p.count
after_entries n messages last now m c P k own others p i q = go (is_unacknowledged c) refl i
  where
    new : Pending
    new = record { seq = m.seq; count = count_of c m.seq + 1; due = plus now c.config.ack_wait }

    known : (p ≡ new) ⊎ (IsIn p c.pending × (p.seq ≡ m.seq → ⊥)) → P p.count
    known (inl e) = subst (λ (z : Pending). P z.count) (sym e) (own (sym (ap (λ (z : Pending). z.seq) e) ∙ q))
    known (inr e) = others (λ r. e.1 (q ∙ sym r)) p e.0 q

    no_one : IsIn p [] → ⊥
    no_one w = elim w [ ]

    go : (b : Bool) → is_unacknowledged c ≡ b → IsIn p (cond b c.pending (with_pending c.pending new)) → P p.count
    go true e w = absurd (no_one (subst (IsIn p) (k.unacknowledged_pending e) w))
    go false e w = known (in_with_pending 1 c.cursor new p c.pending k.pending w)

-- the sequence of a delivery is passed
passed_by_sending : (n now : ℕ) (m : Message) (c : Consumer) → m.seq ≡ n → IsPassed n (sent_to now m c)
passed_by_sending n now m c e = record {
  picks = record { none = false_from_ne_true _ (λ w. eqb-false n m.seq (not-true (n == m.seq) (has-filter (λ k. not (k == m.seq)) c.picks n w)) (sym e)) };
  below = omega arith;
}

times_cons : (n seq count dseq r : ℕ) (more : List Sending) → ((seq ≡ n) → (1 ≤ r) × (times_sent n more ≤ r - 1)) → (seq ≢ n → times_sent n more ≤ r) → times_sent n (record { seq = seq; count = count; dseq = dseq } ∷ more) ≤ r
times_cons n seq count dseq r more f g = go (seq == n) refl
  where
    go : (b : Bool) → (seq == n) ≡ b → length (cond b (record { seq = seq; count = count; dseq = dseq } ∷ filter (λ x. x.seq == n) more) (filter (λ x. x.seq == n) more)) ≤ r
    go true e = let w = f (eqb-true seq n e) in let a : 1 ≤ r = w.0 in let b : times_sent n more ≤ r - 1 = w.1 in omega arith
    go false e = g (eqb-false seq n e)

module _ (n limit : ℕ) (more : List Sending) where
  own_quota : (r : ℕ) (a : Stream) (listening : List Bytes) (c after : Consumer) (d : Delivered) (outs : List Out) → Delivers a listening c d outs after → IsSoundConsumer a.messages a.last c → c.config.max_deliver ≡ Some limit → HasQuota n limit r c
      → ((q : ℕ) → HasQuota n limit q after → times_sent n more ≤ q) → times_sent n (sending_of d ++ more) ≤ r
  own_quota r a listening c after (Sent seq count dseq) outs x k limit_is h f =
      subst (λ (l : ℕ). times_sent n (record { seq = l; count = count; dseq = dseq } ∷ more) ≤ r) (sym x.seq_is) (times_cons n m.seq count dseq r more (sending h) (other h))
    where
      m : Message
      m = x.message

      next : Consumer
      next = sent_to a.moment x.message c

      least_limit : 1 ≤ limit
      least_limit = subst (λ (o : Option ℕ). IfSome o (λ l. 1 ≤ l)) limit_is (one_at_least (2 ^ 62 - 1) c.config.max_deliver (limit_of c.config k.config))

      go_on : (q : ℕ) → HasQuota n limit q next → times_sent n more ≤ q
      go_on q w = f q (subst (HasQuota n limit q) (sym x.after_is) w)

      -- a first delivery, or one that is counted
      fresh : m.seq ≡ n → limit ≤ r → (1 ≤ r) × (times_sent n more ≤ r - 1)
      fresh e l =
          let o : 1 ≤ limit = least_limit in
          (omega arith, go_on (r - 1) (inr (record { passed = passed_by_sending n a.moment m c e; bound = after_entries n a.messages a.last a.moment m c (λ t. limit ≤ t + (r - 1)) k (λ q. omega arith) (λ q. absurd (q e)) })))

      bound_again : m.seq ≡ n → IsBound n limit r c → IsReason a c m → (1 ≤ r) × (times_sent n more ≤ r - 1)
      bound_again e b (again q) =
          let z = find_one (λ p. p.seq) (is_due a.moment c) m.seq 1 c.cursor c.pending k.pending q in
          let low : limit ≤ z.0.count + r = b.bound z.0 (found_in (λ p. p.seq == m.seq) z.0 c.pending z.1).0 (z.3 ∙ e) in
          let below : z.0.count < limit = ltb-true z.0.count limit (subst (λ (o : Option ℕ). below_limit z.0.count o ≡ true) limit_is (and_parts (nat_le z.0.due a.moment) (below_limit z.0.count c.config.max_deliver) z.2).1) in
          let count_is : count_of c m.seq ≡ z.0.count = count_waiting c m.seq z.0 z.1 in
          (omega arith, go_on (r - 1) (inr (record { passed = passed_sent n a.moment m c b.passed; bound = after_entries n a.messages a.last a.moment m c (λ t. limit ≤ t + (r - 1)) k (λ w. omega arith) (λ w. absurd (w e)) })))
      bound_again e b (picked p rest q w o) = absurd (eqb-false p n (lacks-head (subst (Lacks (λ l. l == n)) q b.passed.picks)) (sym w ∙ e))
      bound_again e b (onward q t l o) = let z : n < c.cursor = b.passed.below in absurd (omega arith)

      sending : HasQuota n limit r c → m.seq ≡ n → (1 ≤ r) × (times_sent n more ≤ r - 1)
      sending (inl l) e = fresh e l
      sending (inr b) e = bound_again e b (candidate_is a c m x.candidate).reason

      other : HasQuota n limit r c → m.seq ≢ n → times_sent n more ≤ r
      other (inl l) e = go_on r (inl l)
      other (inr b) e = go_on r (inr (record { passed = passed_sent n a.moment m c b.passed; bound = after_entries n a.messages a.last a.moment m c (λ t. limit ≤ t + r) k (λ q. absurd (e q)) (λ q p i w. b.bound p i w) }))
  own_quota r a listening c after TooSmall outs x k limit_is h f = f r (subst (HasQuota n limit r) (sym x.after_is) (quota_map n limit r c (record c { waiting = x.rest }) (λ b. record { passed = record { picks = b.passed.picks; below = b.passed.below }; bound = b.bound }) h))
  own_quota r a listening c after Emptied outs x k limit_is h f = f r (subst (HasQuota n limit r) (sym x.after_is) (quota_map n limit r c (record c { waiting = without_first (λ p. p.no_wait) c.waiting }) (λ b. record { passed = record { picks = b.passed.picks; below = b.passed.below }; bound = b.bound }) h))

module _ (name : Bytes) (n limit : ℕ) (config : ConsumerConfig) (limit_is : config.max_deliver ≡ Some limit) where
  delivery_quota : (more : List Sending) (r : ℕ) (s : Stream) (new : State) (now : ℕ) (listening : List Bytes) (v : Delivery) (outs : List Out) → IsDelivery s now listening v outs new → IsSoundStream s → InStream name (HasConfig config) s → InStream name (HasQuota n limit r) s
      → ((q : ℕ) → InState name (HasQuota n limit q) new → times_sent n more ≤ q) → times_sent n (sending_to name v ++ more) ≤ r
  delivery_quota more r s new now listening v outs x sound g h f = go (same v.consumer name) refl
    where
      after_it : (same v.consumer name ≡ true) → (q : ℕ) → HasQuota n limit q x.after → times_sent n more ≤ q
      after_it e q w = f q (in_delivery name (HasQuota n limit r) (HasQuota n limit q) (quota_kept n limit r) (quota_kept n limit q) s now listening v outs new x (λ u p. w) (λ u c p. absurd (true≢false (sym e ∙ u))) h)

      config_is : (same v.consumer name ≡ true) → x.consumer.config ≡ config
      config_is e = its name (HasConfig config) (HasConfig config) (config_kept config) (config_kept config) s now listening v outs new x (same_is v.consumer name e) g

      go : (b : Bool) → same v.consumer name ≡ b → times_sent n (cond b (sending_of v.what) [] ++ more) ≤ r
      go true e =
          own_quota n limit more r (advance s now) listening x.consumer x.after v.what x.own x.delivers (sound_found s now listening v outs new x sound)
          (ap (λ (w : ConsumerConfig). w.max_deliver) (config_is e) ∙ limit_is)
          (its name (HasQuota n limit r) (HasQuota n limit r) (quota_kept n limit r) (quota_kept n limit r) s now listening v outs new x (same_is v.consumer name e) h) (after_it e)
      go false e = f r (in_delivery name (HasQuota n limit r) (HasQuota n limit r) (quota_kept n limit r) (quota_kept n limit r) s now listening v outs new x (λ u p. absurd (true≢false (sym (subst (λ (m : Bytes). same v.consumer m ≡ true) u (same_self v.consumer)) ∙ e))) (λ u c p. p) h)

  quotas : (r count : ℕ) (old : State) (entries : List PlaceEntry) (new : State) → IsSoundState old → InState name (HasConfig config) old → InState name (HasQuota n limit r) old → RunFrom count old entries new → times_sent n (sendings name entries) ≤ r
  quotas r count old [] new s g h x = omega arith
  quotas r count (Vacant i) (entry ∷ entries) new s g h x = absurd h
  quotas r count (Live t) (Step seat e now reply outs unsaid ∷ entries) new s g h (mid, x, rest) =
      unless_dropped (drops name e.what) refl
      (λ q. quotas r (count + length (new_messages (Live t) mid)) mid entries new (sound_step count (Live t) mid e now reply outs x s) (in_event name (HasConfig config) (config_kept config) (Live t) mid e now reply outs x.event q g)
      (in_event name (HasQuota n limit r) (quota_kept n limit r) (Live t) mid e now reply outs x.event q h) rest)
    where
      unless_dropped : (b : Bool) → drops name e.what ≡ b → (drops name e.what ≡ false → times_sent n (sendings name entries) ≤ r) → times_sent n (cond b [] (sendings name entries)) ≤ r
      unless_dropped true q f = omega arith
      unless_dropped false q f = f q
  quotas r count (Live t) (Deliver seat now listening v outs ∷ entries) new s g h (mid, x, rest) =
      delivery_quota (sendings name entries) r t mid now listening v outs x.delivered s g h
      (λ q w. quotas q (count + length (new_messages (Live t) mid)) mid entries new (sound_delivery (Live t) mid now listening v outs x.delivered s) (config_delivery name config t mid now listening v outs x.delivered g) w rest)
  quotas r count (Live t) (Broken seat now (StepOf e) ∷ entries) new s g h x = omega arith
  quotas r count (Live t) (Broken seat now (DeliverOf listening v) ∷ []) new s g h (outs, x) =
      subst (λ (xs : List Sending). times_sent n xs ≤ r) (append_nil (sending_to name v)) (delivery_quota [] r t new now listening v outs x.delivered s g h (λ q w. omega arith))
  quotas r count (Live t) (Broken seat now (DeliverOf listening v) ∷ entry ∷ entries) new s g h x = absurd x

-- ---- the quota that stands at first

first_quota : (n limit : ℕ) (messages : List Message) (last : ℕ) (c : Consumer) → IsSoundConsumer messages last c → c.config.max_deliver ≡ Some limit → (count_of c n ≤ limit) × HasQuota n limit (limit - count_of c n) c
first_quota n limit messages last c k e = go (has (pending_seqs c) n) refl
  where
    waiting : has (pending_seqs c) n ≡ true → (count_of c n ≤ limit) × HasQuota n limit (limit - count_of c n) c
    waiting q =
        let z = find_one (λ p. p.seq) (λ p. true) n 1 c.cursor c.pending k.pending (any_true c.pending q) in
        let i = (found_in (λ p. p.seq == n) z.0 c.pending z.1).0 in
        let counted = all_in (IsCounted c.dseq c.config.max_deliver) c.pending k.counts i in
        let within : z.0.count ≤ limit = subst (λ (o : Option ℕ). IfSome o (λ l. z.0.count ≤ l)) e counted.within in
        let count_is : count_of c n ≡ z.0.count = count_waiting c n z.0 z.1 in
        (omega arith, inr (record { passed = entry_passed messages last n c k (or_left (has (pending_seqs c) n) (has c.given_up n) q); bound = bound }))
      where
        any_true : (ps : List Pending) → has (map (λ p. p.seq) ps) n ≡ true → list_any (λ p. p.seq == n && true) ps ≡ true
        any_true [] w = w
        any_true (p ∷ ps) w = step (p.seq == n) (any_true ps) w
          where
            step : (b : Bool) → (has (map (λ p. p.seq) ps) n ≡ true → list_any (λ p. p.seq == n && true) ps ≡ true) → (b || has (map (λ p. p.seq) ps) n) ≡ true → ((b && true) || list_any (λ p. p.seq == n && true) ps) ≡ true
            step true f v = refl
            step false f v = f v

        -- each entry of the sequence is the one that is counted
        bound : (p : Pending) → IsIn p c.pending → p.seq ≡ n → limit ≤ p.count + (limit - count_of c n)
        bound p i w = let d : count_of c n ≡ p.count = count_of_entry p i w in omega arith
          where
            count_of_entry : (p : Pending) → IsIn p c.pending → p.seq ≡ n → count_of c n ≡ p.count
            count_of_entry p i w = count_waiting c n p (pending_found 1 c.cursor n c.pending k.pending p i w)

    go : (b : Bool) → has (pending_seqs c) n ≡ b → (count_of c n ≤ limit) × HasQuota n limit (limit - count_of c n) c
    go true q = waiting q
    go false q = let d : count_of c n ≡ 0 = count_absent c n q in (omega arith, inl (omega arith))

pub deliveries_limited : (name : Bytes) (n count : ℕ) (old : State) (entries : List PlaceEntry) (new : State) (c : Consumer) → IsSoundState old → consumer_of name old ≡ Some c → RunFrom count old entries new
    → IfSome c.config.max_deliver (λ limit. count_of c n + times_sent n (sendings name entries) ≤ limit)
deliveries_limited name n count old entries new c s e r = go c.config.max_deliver refl
  where
    sound_one : (old : State) → IsSoundState old → consumer_of name old ≡ Some c → (limit : ℕ) → c.config.max_deliver ≡ Some limit → (count_of c n ≤ limit) × HasQuota n limit (limit - count_of c n) c
    sound_one (Vacant i) s e limit q = absurd (none_some e)
    sound_one (Live t) s e limit q = first_quota n limit t.messages t.last c (All-by_name (IsSoundConsumer t.messages t.last) t.consumers name c e s.consumers) q

    go : (o : Option ℕ) → c.config.max_deliver ≡ o → IfSome o (λ limit. count_of c n + times_sent n (sendings name entries) ≤ limit)
    go None q = tt
    go (Some limit) q =
        let w = sound_one old s e limit q in
        let l : times_sent n (sendings name entries) ≤ limit - count_of c n = quotas name n limit c.config q (limit - count_of c n) count old entries new s (stands_of name old c (λ d. d.config ≡ c.config) e refl) (stands_of name old c (HasQuota n limit (limit - count_of c n)) e w.1) r in
        let u : count_of c n ≤ limit = w.0 in omega arith

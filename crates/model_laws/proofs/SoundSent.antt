-- A sound stream that delivers is sound.
use Rattle.std.proofs.Common.{◌≡◌, ℕ, ◌+◌, ◌-◌, ◌^◌, ◌<◌, ◌≤◌, Bool, true, false, ◌&&◌, ◌||◌, not, cond, List, [], ◌∷◌, map, max, refl, sym, ap, ◌∙◌, subst, arith, ◌⊎◌, inl, inr}
use Rattle.std.specs.Prelude.{Option, Some, None, filter, find, nat_lt, ◌==◌, All, IfSome, IsTrue}
use Rattle.std.specs.List.{list_any}
use Rattle.std.proofs.lemmas.Bool.{true≢false, and_parts, or_cases, or_left, or_right, ltb-true, ltb-false, eqb-true, eqb-false, ne_eqb, eq-eqb, false_from_ne_true, not-true, or_from, or_parts, and_from}
use Rattle.std.proofs.lemmas.List.Elements.{All-cons, All-head, All-tail, All-weaker}
use Rattle.js_base.specs.Bytes.{Bytes, has}
use Rattle.js_base.specs.Moments.{plus}
use Rattle.js_base.specs.declared.out.Out.{Out}
use Rattle.js_model.specs.Lists.{Apart, Between}
use Rattle.js_model.specs.declared.consumer_config.ConsumerConfig.{ConsumerConfig}
use Rattle.js_model.specs.declared.stream.Message.{Message}
use Rattle.js_model.specs.declared.stream.Stream.{Stream}
use Rattle.js_model.specs.declared.consumer.Pending.{Pending}
use Rattle.js_model.specs.declared.consumer.Consumer.{Consumer}
use Rattle.js_model.specs.declared.entry.Delivered.{Delivered}
use Rattle.js_model.specs.declared.entry.Delivered.TheVariants.{Sent, TooSmall, Emptied}
use Rattle.js_model.specs.Streams.{passes_filter, pending_seqs, is_unacknowledged, sent_size, below_limit}
use Rattle.js_model.specs.Configs.{is_consumer_config, is_limit}
use Rattle.js_model.specs.Deliver.{sent_to, pending_after, with_pending, count_of, front_served, is_due, without_first, Delivers}
use Rattle.model_laws.proofs.Whole.{IsStored, AreStored, IsCounted, IsSoundConsumer}
use Rattle.js_model.proofs.Parts.{filter_part, all_part, part_between, between_higher, between_bounds, between_map}
use Rattle.js_model.proofs.Lacking.{apart-parts, has-part}
use Rattle.model_laws.proofs.SoundParts.{has-filter}
use Rattle.model_laws.proofs.SoundAcks.{waiting_sound}
use Rattle.js_model.proofs.Members.{IsIn, here, there, in_bounds, any_in, find_one, found_in, find_none, all_in}
use Rattle.js_model.proofs.Candidates.{IsReason, again, picked, onward, IsCandidate, candidate_is}

-- ---- the entries with one in its place

between_with_pending : (low high : ℕ) (new : Pending) (ps : List Pending) → Between (λ p. p.seq) low high ps → low ≤ new.seq → new.seq < high → Between (λ p. p.seq) low high (with_pending ps new)
between_with_pending low high new [] h l g = (l, omega arith)
between_with_pending low high new (p ∷ ps) h l g = go (nat_lt p.seq new.seq) refl (p.seq == new.seq) refl (between_with_pending (p.seq + 1) high new ps h.1)
  where
    go : (a : Bool) → nat_lt p.seq new.seq ≡ a → (b : Bool) → (p.seq == new.seq) ≡ b → (p.seq + 1 ≤ new.seq → new.seq < high → Between (λ p. p.seq) (p.seq + 1) high (with_pending ps new))
        → Between (λ p. p.seq) low high (cond a (p ∷ with_pending ps new) (cond b (new ∷ ps) (new ∷ p ∷ ps)))
    go true q b w f = (h.0, f (let r : p.seq < new.seq = ltb-true p.seq new.seq q in omega arith) g)
    go false q true w f = (l, subst (λ (n : ℕ). Between (λ p. p.seq) (n + 1) high ps) (eqb-true p.seq new.seq w) h.1)
    go false q false w f = (l, (let r : new.seq ≤ p.seq = ltb-false p.seq new.seq q in let d : p.seq ≡ new.seq → ⊥ = eqb-false p.seq new.seq w in omega (arith, d), h.1))

-- an entry that was there, or the new one
has-with_pending : (new : Pending) (ps : List Pending) (n : ℕ) → has (map (λ p. p.seq) (with_pending ps new)) n ≡ true → (has (map (λ p. p.seq) ps) n ≡ true) ⊎ (new.seq ≡ n)
has-with_pending new [] n h = go (or_cases (new.seq == n) false h)
  where
    go : ((new.seq == n) ≡ true) ⊎ (false ≡ true) → (has [] n ≡ true) ⊎ (new.seq ≡ n)
    go (inl e) = inr (eqb-true new.seq n e)
    go (inr e) = inl e
has-with_pending new (p ∷ ps) n h = go (nat_lt p.seq new.seq) (p.seq == new.seq) (has-with_pending new ps n) h
  where
    seqs_of : List Pending → List ℕ
    seqs_of qs = map (λ p. p.seq) qs

    at_new : (qs : List Pending) → ((new.seq == n) || has (map (λ p. p.seq) qs) n) ≡ true → (has (map (λ p. p.seq) qs) n ≡ true) ⊎ (new.seq ≡ n)
    at_new qs k = either (or_cases (new.seq == n) (has (map (λ p. p.seq) qs) n) k)
      where
        either : ((new.seq == n) ≡ true) ⊎ (has (map (λ p. p.seq) qs) n ≡ true) → (has (map (λ p. p.seq) qs) n ≡ true) ⊎ (new.seq ≡ n)
        either (inl e) = inr (eqb-true new.seq n e)
        either (inr e) = inl e

    later : (has (map (λ p. p.seq) ps) n ≡ true) ⊎ (new.seq ≡ n) → (has (map (λ p. p.seq) (p ∷ ps)) n ≡ true) ⊎ (new.seq ≡ n)
    later (inl e) = inl (or_right (p.seq == n) (has (map (λ p. p.seq) ps) n) e)
    later (inr e) = inr e

    go : (a b : Bool) → (has (map (λ p. p.seq) (with_pending ps new)) n ≡ true → (has (map (λ p. p.seq) ps) n ≡ true) ⊎ (new.seq ≡ n)) → has (map (λ p. p.seq) (cond a (p ∷ with_pending ps new) (cond b (new ∷ ps) (new ∷ p ∷ ps)))) n ≡ true
        → (has (map (λ p. p.seq) (p ∷ ps)) n ≡ true) ⊎ (new.seq ≡ n)
    go true b f k = either (or_cases (p.seq == n) (has (map (λ p. p.seq) (with_pending ps new)) n) k)
      where
        either : ((p.seq == n) ≡ true) ⊎ (has (map (λ p. p.seq) (with_pending ps new)) n ≡ true) → (has (map (λ p. p.seq) (p ∷ ps)) n ≡ true) ⊎ (new.seq ≡ n)
        either (inl e) = inl (or_left (p.seq == n) (has (map (λ p. p.seq) ps) n) e)
        either (inr e) = later (f e)
    go false true f k = later (at_new ps k)
    go false false f k = at_new (p ∷ ps) k

pub All-with_pending : (P : Pending → Type 0) (new : Pending) (ps : List Pending) → P new → All P ps → All P (with_pending ps new)
All-with_pending P new [] h k = All-cons P new [] h k
All-with_pending P new (p ∷ ps) h k = go (nat_lt p.seq new.seq) (p.seq == new.seq) (All-with_pending P new ps h (All-tail P p ps k))
  where
    go : (a b : Bool) → All P (with_pending ps new) → All P (cond a (p ∷ with_pending ps new) (cond b (new ∷ ps) (new ∷ p ∷ ps)))
    go true b r = All-cons P p (with_pending ps new) (All-head P p ps k) r
    go false true r = All-cons P new ps h (All-tail P p ps k)
    go false false r = All-cons P new (p ∷ ps) h k

-- ---- what a sound consumer says of a candidate

-- what a delivery needs to know of its message
pub record IsDeliverable (a : Stream) (c : Consumer) (m : Message) : Type 0 where
  pub stored : IsStored a.messages c.config.filter_subject m.seq
  pub low : 1 ≤ m.seq
  pub high : m.seq ≤ a.last
  pub not_given_up : has c.given_up m.seq ≡ false
  pub count : count_of c m.seq ≤ c.dseq
  pub within : IfSome c.config.max_deliver (λ limit. count_of c m.seq + 1 ≤ limit)

-- a limit on deliveries is at least one
pub one_at_least : (greatest : ℕ) (limit : Option ℕ) → is_limit greatest limit ≡ true → IfSome limit (λ n. 1 ≤ n)
one_at_least greatest None h = tt
one_at_least greatest (Some n) h = let q : 0 < n = ltb-true 0 n (and_parts _ _ h).0 in omega arith

pub limit_of : (config : ConsumerConfig) → IsTrue (is_consumer_config config) → is_limit (2 ^ 62 - 1) config.max_deliver ≡ true
limit_of config h = (and_parts _ _ (and_parts _ _ (and_parts _ _ (and_parts _ _ (and_parts _ _ (and_parts _ _ (and_parts _ _ (and_parts _ _ (and_parts _ _ h).0).0).0).0).0).0).0).0).1

-- no more entries than this server allows may wait
pub ack_limit_of : (config : ConsumerConfig) → IsTrue (is_consumer_config config) → is_limit 65536 config.max_ack_pending ≡ true
ack_limit_of config h = (and_parts _ _ (and_parts _ _ (and_parts _ _ (and_parts _ _ (and_parts _ _ (and_parts _ _ (and_parts _ _ (and_parts _ _ h).0).0).0).0).0).0).0).1

-- a sequence that waits is counted; another one is not
pub count_waiting : (c : Consumer) (n : ℕ) (p : Pending) → find (λ p. p.seq == n) c.pending ≡ Some p → count_of c n ≡ p.count
count_waiting c n p e = ap (λ (o : Option Pending). count_or_zero o) e
  where
    count_or_zero : Option Pending → ℕ
    count_or_zero None = 0
    count_or_zero (Some q) = q.count

pub count_absent : (c : Consumer) (n : ℕ) → has (pending_seqs c) n ≡ false → count_of c n ≡ 0
count_absent c n e = ap (λ (o : Option Pending). count_or_zero o) (find_none (λ p. p.seq == n) c.pending (any_of_seqs c.pending e))
  where
    count_or_zero : Option Pending → ℕ
    count_or_zero None = 0
    count_or_zero (Some q) = q.count

    any_of_seqs : (ps : List Pending) → has (map (λ p. p.seq) ps) n ≡ false → list_any (λ p. p.seq == n) ps ≡ false
    any_of_seqs [] k = k
    any_of_seqs (p ∷ ps) k = or_from _ _ (or_parts _ _ k).0 (any_of_seqs ps (or_parts _ _ k).1)

pub has_seq : (p : Pending) (ps : List Pending) → IsIn p ps → has (map (λ p. p.seq) ps) p.seq ≡ true
has_seq p [] h = elim h [ ]
has_seq p (q ∷ ps) here = or_left (p.seq == p.seq) (has (map (λ p. p.seq) ps) p.seq) (eq-eqb p.seq p.seq refl)
has_seq p (q ∷ ps) (there h) = or_right (q.seq == p.seq) (has (map (λ p. p.seq) ps) p.seq) (has_seq p ps h)

-- nothing at or above the end of an ascending list is in it
pub none_above : (n low high : ℕ) (xs : List ℕ) → Between (λ n. n) low high xs → high ≤ n → has xs n ≡ false
none_above n low high [] h l = refl
none_above n low high (x ∷ xs) h l = or_from _ _ (ne_eqb x n (let q : x + 1 ≤ high = between_bounds (λ n. n) (x + 1) high xs h.1 in omega arith)) (none_above n (x + 1) high xs h.1 l)

pub seqs_between : (c : Consumer) → Between (λ p. p.seq) 1 c.cursor c.pending → Between (λ n. n) 1 c.cursor (pending_seqs c)
seqs_between c h = between_map (λ n. n) (λ p. p.seq) 1 c.cursor c.pending h

next_count : (p : Pending) (limit : Option ℕ) → below_limit p.count limit ≡ true → IfSome limit (λ limit. p.count + 1 ≤ limit)
next_count p None e = tt
next_count p (Some n) e = let q : p.count < n = ltb-true p.count n e in omega arith

first_count : (count : ℕ) (limit : Option ℕ) → count ≡ 0 → IfSome limit (λ n. 1 ≤ n) → IfSome limit (λ limit. count + 1 ≤ limit)
first_count count None e h = tt
first_count count (Some n) e h = let q : 1 ≤ n = h in omega arith

pub deliverable : (a : Stream) (c : Consumer) (m : Message) → Between (λ m. m.seq) 1 (a.last + 1) a.messages → IsSoundConsumer a.messages a.last c → IsCandidate a c m → IsDeliverable a c m
deliverable a c m h k w = go w.reason
  where
    bounds : (1 ≤ m.seq) × (m.seq < a.last + 1)
    bounds = in_bounds (λ m. m.seq) 1 (a.last + 1) m a.messages h w.stored

    at_least_one : IfSome c.config.max_deliver (λ n. 1 ≤ n)
    at_least_one = one_at_least (2 ^ 62 - 1) c.config.max_deliver (limit_of c.config k.config)

    -- a sequence that does not wait
    fresh : IsStored a.messages c.config.filter_subject m.seq → has c.given_up m.seq ≡ false → has (pending_seqs c) m.seq ≡ false → IsDeliverable a c m
    fresh stored not_given_up absent = let zero_is = count_absent c m.seq absent in record {
      stored = stored;
      low = bounds.0;
      high = let q : m.seq < a.last + 1 = bounds.1 in omega arith;
      not_given_up = not_given_up;
      count = let q : count_of c m.seq ≡ 0 = zero_is in omega arith;
      within = first_count (count_of c m.seq) c.config.max_deliver zero_is at_least_one;
    }

    go : IsReason a c m → IsDeliverable a c m
    go (again e) =
        let f = find_one (λ p. p.seq) (is_due a.moment c) m.seq 1 c.cursor c.pending k.pending e in
        let i = (found_in (λ p. p.seq == m.seq) f.0 c.pending f.1).0 in
        let waits : has (pending_seqs c) m.seq ≡ true = subst (λ (n : ℕ). has (pending_seqs c) n ≡ true) f.3 (has_seq f.0 c.pending i) in
        let counted = all_in (IsCounted c.dseq c.config.max_deliver) c.pending k.counts i in
        let count_is = count_waiting c m.seq f.0 f.1 in
        record {
          stored = k.pending_stored.stored m.seq waits;
          low = bounds.0;
          high = let q : m.seq < a.last + 1 = bounds.1 in omega arith;
          not_given_up = k.pending_given_up.apart m.seq waits;
          count = let q : count_of c m.seq ≡ f.0.count = count_is in let r : f.0.count ≤ c.dseq = counted.most in omega arith;
          within = subst (λ (n : ℕ). IfSome c.config.max_deliver (λ limit. n + 1 ≤ limit)) (sym count_is) (next_count f.0 c.config.max_deliver (and_parts _ _ f.2).1);
        }
    go (picked p rest e q o) =
        let there_is : has c.picks m.seq ≡ true = subst (λ (l : List ℕ). has l m.seq ≡ true) (sym e) (or_left (p == m.seq) (has rest m.seq) (eq-eqb p m.seq (sym q))) in
        fresh (k.picks_stored.stored m.seq there_is) (k.picks_given_up.apart m.seq there_is) (k.picks_pending.apart m.seq there_is)
    go (onward e t l o) =
        fresh (any_in (λ x. x.seq == m.seq && passes_filter c.config.filter_subject x.subject) m a.messages w.stored (and_from _ _ (eq-eqb m.seq m.seq refl) t))
        (none_above m.seq 1 c.cursor c.given_up k.given_up l) (none_above m.seq 1 c.cursor (pending_seqs c) (seqs_between c k.pending) l)

-- ---- the consumer after a delivery

-- the entries after a delivery
record ArePending (a : Stream) (c : Consumer) (m : Message) (ps : List Pending) : Type 0 where
  ascend : Between (λ p. p.seq) 1 (max c.cursor (m.seq + 1)) ps
  stored : AreStored a.messages c.config.filter_subject (map (λ p. p.seq) ps)
  picks : Apart (filter (λ n. not (n == m.seq)) c.picks) (map (λ p. p.seq) ps)
  given_up : Apart (map (λ p. p.seq) ps) c.given_up
  counts : All (IsCounted (c.dseq + 1) c.config.max_deliver) ps

more_counted : (dseq : ℕ) (limit : Option ℕ) (p : Pending) → IsCounted dseq limit p → IsCounted (dseq + 1) limit p
more_counted dseq limit p h = record { least = h.least; most = let q : p.count ≤ dseq = h.most in omega arith; within = h.within }

same_pending : (a : Stream) (c : Consumer) (m : Message) → IsSoundConsumer a.messages a.last c → ArePending a c m c.pending
same_pending a c m k = record {
  ascend = between_higher (λ p. p.seq) 1 c.cursor (max c.cursor (m.seq + 1)) c.pending (omega arith) k.pending;
  stored = k.pending_stored;
  picks = apart-parts (filter_part _ c.picks) (all_part (pending_seqs c)) k.picks_pending;
  given_up = k.pending_given_up;
  counts = All-weaker (IsCounted c.dseq c.config.max_deliver) (IsCounted (c.dseq + 1) c.config.max_deliver) (λ p q. more_counted c.dseq c.config.max_deliver p q) c.pending k.counts;
}

with_new_pending : (a : Stream) (c : Consumer) (m : Message) (due : ℕ) → IsSoundConsumer a.messages a.last c → IsDeliverable a c m → ArePending a c m (with_pending c.pending (record { seq = m.seq; count = count_of c m.seq + 1; due = due }))
with_new_pending a c m due k d = record {
  ascend = between_with_pending 1 (max c.cursor (m.seq + 1)) new c.pending old.ascend d.low (omega arith);
  stored = record { stored = λ n e. stored n (has-with_pending new c.pending n e) };
  picks = record { apart = λ n e. false_from_ne_true _ (λ w. apart n e (has-with_pending new c.pending n w)) };
  given_up = record { apart = λ n e. not_given_up n (has-with_pending new c.pending n e) };
  counts = All-with_pending (IsCounted (c.dseq + 1) c.config.max_deliver) new c.pending (record { least = omega arith; most = let q : count_of c m.seq ≤ c.dseq = d.count in omega arith; within = d.within }) old.counts;
}
  where
    new : Pending
    new = record { seq = m.seq; count = count_of c m.seq + 1; due = due }

    old : ArePending a c m c.pending
    old = same_pending a c m k

    stored : (n : ℕ) → (has (pending_seqs c) n ≡ true) ⊎ (m.seq ≡ n) → IsStored a.messages c.config.filter_subject n
    stored n (inl e) = k.pending_stored.stored n e
    stored n (inr e) = subst (IsStored a.messages c.config.filter_subject) e d.stored

    -- the sequence is no pick any more
    apart : (n : ℕ) → has (filter (λ n. not (n == m.seq)) c.picks) n ≡ true → (has (pending_seqs c) n ≡ true) ⊎ (m.seq ≡ n) → ⊥
    apart n e (inl w) = true≢false (sym w ∙ old.picks.apart n e)
    apart n e (inr w) = eqb-false n m.seq (not-true (n == m.seq) (has-filter (λ n. not (n == m.seq)) c.picks n e)) (sym w)

    not_given_up : (n : ℕ) → (has (pending_seqs c) n ≡ true) ⊎ (m.seq ≡ n) → has c.given_up n ≡ false
    not_given_up n (inl e) = k.pending_given_up.apart n e
    not_given_up n (inr e) = subst (λ (n : ℕ). has c.given_up n ≡ false) e d.not_given_up

pending_sound : (a : Stream) (c : Consumer) (m : Message) (now : ℕ) → IsSoundConsumer a.messages a.last c → IsDeliverable a c m → ArePending a c m (pending_after now m c)
pending_sound a c m now k d = go (is_unacknowledged c)
  where
    go : (b : Bool) → ArePending a c m (cond b c.pending (with_pending c.pending (record { seq = m.seq; count = count_of c m.seq + 1; due = plus now c.config.ack_wait })))
    go true = same_pending a c m k
    go false = with_new_pending a c m (plus now c.config.ack_wait) k d

-- a consumer whose deliveries are not acknowledged has no entries
unacknowledged_none : (c : Consumer) (m : Message) (now : ℕ) → is_unacknowledged c ≡ true → c.pending ≡ [] → pending_after now m c ≡ []
unacknowledged_none c m now e h = ap (λ (b : Bool). cond b c.pending (with_pending c.pending (record { seq = m.seq; count = count_of c m.seq + 1; due = plus now c.config.ack_wait }))) e ∙ h

pub sent_sound : (a : Stream) (c : Consumer) (m : Message) (now : ℕ) → IsSoundConsumer a.messages a.last c → IsDeliverable a c m → IsSoundConsumer a.messages a.last (sent_to now m c)
sent_sound a c m now k d = let p = pending_sound a c m now k d in record {
  config = k.config;
  named = k.named;
  cursor = let q : c.cursor ≤ a.last + 1 = k.cursor in let r : m.seq ≤ a.last = d.high in omega arith;
  picks = between_higher (λ n. n) 1 c.cursor (max c.cursor (m.seq + 1)) _ (omega arith) (part_between (λ n. n) 1 c.cursor (filter_part _ c.picks) k.picks);
  pending = p.ascend;
  given_up = between_higher (λ n. n) 1 c.cursor (max c.cursor (m.seq + 1)) c.given_up (omega arith) k.given_up;
  picks_stored = record { stored = λ n e. k.picks_stored.stored n (has-part n (filter_part _ c.picks) e) };
  pending_stored = p.stored;
  given_up_stored = k.given_up_stored;
  picks_pending = p.picks;
  picks_given_up = apart-parts (filter_part _ c.picks) (all_part c.given_up) k.picks_given_up;
  pending_given_up = p.given_up;
  counts = p.counts;
  unacknowledged_pending = λ e. unacknowledged_none c m now e (k.unacknowledged_pending e);
  unacknowledged_given_up = k.unacknowledged_given_up;
  push = λ e. ap (front_served now (sent_size m)) (k.push e);
}

-- ---- all three cases

pub delivered_sound : (a : Stream) (listening : List Bytes) (c after : Consumer) (what : Delivered) (outs : List Out) → Between (λ m. m.seq) 1 (a.last + 1) a.messages
    → Delivers a listening c what outs after → IsSoundConsumer a.messages a.last c → IsSoundConsumer a.messages a.last after
delivered_sound a listening c after (Sent seq count dseq) outs h x k = subst (IsSoundConsumer a.messages a.last) (sym x.after_is) (sent_sound a c x.message a.moment k (deliverable a c x.message h k (candidate_is a c x.message x.candidate)))
delivered_sound a listening c after TooSmall outs h x k = subst (IsSoundConsumer a.messages a.last) (sym x.after_is) (waiting_sound a.messages a.last c.mark x.rest c (λ e. absurd (true≢false (sym e ∙ x.pull))) k)
delivered_sound a listening c after Emptied outs h x k = subst (IsSoundConsumer a.messages a.last) (sym x.after_is) (waiting_sound a.messages a.last c.mark (without_first (λ p. p.no_wait) c.waiting) c (λ e. ap (without_first (λ p. p.no_wait)) (k.push e)) k)

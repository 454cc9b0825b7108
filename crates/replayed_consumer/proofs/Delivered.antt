-- A consumer to which a message was delivered.
use Rattle.std.proofs.Common.{◌≡◌, ℕ, ◌+◌, ◌<◌, ◌≤◌, ◌==◌, ◌^◌, ◌&&◌, ◌||◌, Bool, true, false, cond, not, List, [], ◌∷◌, length, max, refl, sym, ap, ◌∙◌, subst, arith, ◌⊎◌, inl, inr}
use Rattle.std.specs.Prelude.{filter, nat_le, nat_lt, All, Option}
use Rattle.std.proofs.lemmas.Bool.{and_parts, eqb-false, eqb-true, false_from_ne_true, leb-true, ltb-false, ltb-true, not-true, or_cases, true≢false}
use Rattle.std.proofs.lemmas.List.Elements.{All-weaker}
use Rattle.js_base.specs.Bytes.{has}
use Rattle.js_model.specs.declared.stream.Message.{Message}
use Rattle.js_model.specs.declared.consumer.Pending.{Pending}
use Rattle.js_model.specs.declared.consumer.Consumer.{Consumer}
use Rattle.js_model.specs.Deliver.{with_pending}
use Rattle.js_model.specs.Lists.{Apart, Between}
use Rattle.js_model.specs.Streams.{is_unacknowledged, pending_seqs, seqs}
use Rattle.js_model.proofs.Lacking.{apart-parts, has-part}
use Rattle.js_model.proofs.Parts.{all_part, between_higher, filter_part, part_between, part-length}
use Rattle.model_laws.specs.Sound.{IsCounted, IsWellStoredConsumer}
use Rattle.model_laws.specs.Bounds.{IsBoundedConsumer, IsBoundedEntry}
use Rattle.model_laws.proofs.SoundParts.{has-filter}
use Rattle.model_laws.proofs.SoundSent.{All-with_pending}
use Rattle.consumer_progress.specs.Progresses.{seqs_of}
use Rattle.consumer_progress.proofs.Filling.{one_longer}
use Rattle.consumer_progress.proofs.Seqs.{has_with}
use Rattle.effects.specs.Folding.{delivered_to, pending_with}
use Rattle.replayed_consumer.specs.Replayed.{IsReplayable}
use Rattle.replayed_consumer.specs.Delivering.{has_room, CanDeliver}
use Rattle.replayed_consumer.specs.Storable.{IsStoredSeq, KeepsWith}

-- ---- entries with one in its place

between_with : (low high : ℕ) (e : Pending) (ps : List Pending) → Between (λ p. p.seq) low high ps → low ≤ e.seq → e.seq < high → Between (λ p. p.seq) low high (with_pending ps e)
between_with low high e [] h l g = (l, omega (arith, g))
between_with low high e (p ∷ ps) h l g = go (nat_lt p.seq e.seq) refl (p.seq == e.seq) refl (between_with (p.seq + 1) high e ps h.1)
  where
    go : (a : Bool) → nat_lt p.seq e.seq ≡ a → (b : Bool) → (p.seq == e.seq) ≡ b → (p.seq + 1 ≤ e.seq → e.seq < high → Between (λ p. p.seq) (p.seq + 1) high (with_pending ps e))
        → Between (λ p. p.seq) low high (cond a (p ∷ with_pending ps e) (cond b (e ∷ ps) (e ∷ p ∷ ps)))
    go true q b w f = (h.0, f (let r : p.seq < e.seq = ltb-true p.seq e.seq q in omega (arith, r)) g)
    go false q true w f = (l, subst (λ (n : ℕ). Between (λ p. p.seq) (n + 1) high ps) (eqb-true p.seq e.seq w) h.1)
    go false q false w f = (l, (let r : e.seq ≤ p.seq = ltb-false p.seq e.seq q in let d : p.seq ≡ e.seq → ⊥ = eqb-false p.seq e.seq w in omega (arith, d, r), h.1))

-- nothing below the first is in an ascending list
below_first : (n low high : ℕ) (ps : List Pending) → Between (λ p. p.seq) low high ps → has (seqs_of ps) n ≡ true → low ≤ n
below_first n low high [] h e = absurd (true≢false (sym e))
below_first n low high (p ∷ ps) h e = go (or_cases (p.seq == n) (has (seqs_of ps) n) e) (below_first n (p.seq + 1) high ps h.1)
  where
    first : low ≤ p.seq
    first = h.0

    go : ((p.seq == n) ≡ true) ⊎ (has (seqs_of ps) n ≡ true) → (has (seqs_of ps) n ≡ true → p.seq + 1 ≤ n) → low ≤ n
    go (inl w) f = let same : p.seq ≡ n = eqb-true p.seq n w in omega (arith, same, first)
    go (inr w) f = omega (arith, f w, first)

-- an entry in the place of another one
same_length : (e : Pending) (low high : ℕ) (ps : List Pending) → Between (λ p. p.seq) low high ps → has (seqs_of ps) e.seq ≡ true → length (with_pending ps e) ≤ length ps
same_length e low high [] h k = absurd (true≢false (sym k))
same_length e low high (p ∷ ps) h k = go (nat_lt p.seq e.seq) refl (p.seq == e.seq) refl (same_length e (p.seq + 1) high ps h.1) k
  where
    go : (a : Bool) → nat_lt p.seq e.seq ≡ a → (b : Bool) → (p.seq == e.seq) ≡ b → (has (seqs_of ps) e.seq ≡ true → length (with_pending ps e) ≤ length ps) → (b || has (seqs_of ps) e.seq) ≡ true
        → length (cond a (p ∷ with_pending ps e) (cond b (e ∷ ps) (e ∷ p ∷ ps))) ≤ length (p ∷ ps)
    go true q true w f k = absurd (let r : p.seq < e.seq = ltb-true p.seq e.seq q in let s : p.seq ≡ e.seq = eqb-true p.seq e.seq w in omega (arith, r, s))
    go true q false w f k = omega (arith, f k)
    go false q true w f k = omega arith
    go false q false w f k = absurd (let r : e.seq ≤ p.seq = ltb-false p.seq e.seq q in let s : p.seq + 1 ≤ e.seq = below_first e.seq (p.seq + 1) high ps h.1 k in omega (arith, r, s))

-- ---- what waits after a delivery

module _ (c : Consumer) (p : Pending) where
  by_cases : (P : List Pending → Type 0) → P c.pending → P (with_pending c.pending p) → P (pending_with p c)
  by_cases P h k = go (is_unacknowledged c)
    where
      go : (b : Bool) → P (cond b c.pending (with_pending c.pending p))
      go true = h
      go false = k

  pending_between : (low : ℕ) → low ≤ p.seq → Between (λ e. e.seq) low c.cursor c.pending → Between (λ e. e.seq) low (max c.cursor (p.seq + 1)) (pending_with p c)
  pending_between low l h =
      let old = between_higher (λ e. e.seq) low c.cursor (max c.cursor (p.seq + 1)) c.pending (omega arith) h in
      by_cases (Between (λ e. e.seq) low (max c.cursor (p.seq + 1))) old (between_with low (max c.cursor (p.seq + 1)) p c.pending old l (omega arith))

  pending_has : (n : ℕ) → has (seqs_of (pending_with p c)) n ≡ true → (has (seqs_of c.pending) n ≡ true) ⊎ (p.seq ≡ n)
  pending_has n = by_cases (λ ps. has (seqs_of ps) n ≡ true → (has (seqs_of c.pending) n ≡ true) ⊎ (p.seq ≡ n)) (λ e. inl e) (has_with p c.pending n)

  pending_all : (P : Pending → Type 0) → P p → All P c.pending → All P (pending_with p c)
  pending_all P h k = by_cases (All P) k (All-with_pending P p c.pending h k)

  none_waits : is_unacknowledged c ≡ true → pending_with p c ≡ c.pending
  none_waits e = ap (λ b. cond b c.pending (with_pending c.pending p)) e

  -- the sequence is no pick any more
  picks_apart : Apart c.picks (seqs_of c.pending) → Apart (filter (λ n. not (n == p.seq)) c.picks) (seqs_of (pending_with p c))
  picks_apart h = record { apart = λ n e. false_from_ne_true _ (λ w. go n e (pending_has n w)) }
    where
      go : (n : ℕ) → has (filter (λ n. not (n == p.seq)) c.picks) n ≡ true → (has (seqs_of c.pending) n ≡ true) ⊎ (p.seq ≡ n) → ⊥
      go n e (inl w) = true≢false (sym w ∙ h.apart n (has-part n (filter_part (λ n. not (n == p.seq)) c.picks) e))
      go n e (inr w) = eqb-false n p.seq (not-true (n == p.seq) (has-filter (λ n. not (n == p.seq)) c.picks n e)) (sym w)

  given_up_apart : has c.given_up p.seq ≡ false → Apart (seqs_of c.pending) c.given_up → Apart (seqs_of (pending_with p c)) c.given_up
  given_up_apart fresh h = record { apart = λ n e. go n (pending_has n e) }
    where
      go : (n : ℕ) → (has (seqs_of c.pending) n ≡ true) ⊎ (p.seq ≡ n) → has c.given_up n ≡ false
      go n (inl e) = h.apart n e
      go n (inr e) = subst (λ (n : ℕ). has c.given_up n ≡ false) e fresh

  -- one more waits only where there is room
  abbrev Grows : Type 0
  Grows = (length (pending_with p c) ≤ length c.pending) ⊎ ((length c.pending < 65536) × (length c.given_up ≤ 65536) × (length (pending_with p c) ≤ length c.pending + 1))

  grows : (low : ℕ) → Between (λ e. e.seq) low c.cursor c.pending → has_room c p.seq ≡ true → Grows
  grows low h room = first (or_cases (is_unacknowledged c) (has (pending_seqs c) p.seq || (nat_lt (length c.pending) 65536 && nat_le (length c.given_up) 65536)) room)
    where
      third : (nat_lt (length c.pending) 65536 && nat_le (length c.given_up) 65536) ≡ true → Grows
      third e =
          let parts = and_parts (nat_lt (length c.pending) 65536) (nat_le (length c.given_up) 65536) e in
          inr (ltb-true (length c.pending) 65536 parts.0, leb-true (length c.given_up) 65536 parts.1, by_cases (λ ps. length ps ≤ length c.pending + 1) (omega arith) (one_longer c.pending p))

      second : (has (pending_seqs c) p.seq ≡ true) ⊎ ((nat_lt (length c.pending) 65536 && nat_le (length c.given_up) 65536) ≡ true) → Grows
      second (inl e) = inl (by_cases (λ ps. length ps ≤ length c.pending) (omega arith) (same_length p low c.cursor c.pending h e))
      second (inr e) = third e

      first : (is_unacknowledged c ≡ true) ⊎ ((has (pending_seqs c) p.seq || (nat_lt (length c.pending) 65536 && nat_le (length c.given_up) 65536)) ≡ true) → Grows
      first (inl e) = inl (let same : length (pending_with p c) ≡ length c.pending = ap length (none_waits e) in omega (arith, same))
      first (inr e) = second (or_cases (has (pending_seqs c) p.seq) (nat_lt (length c.pending) 65536 && nat_le (length c.given_up) 65536) e)

-- ---- the consumer after a delivery

counted_later : (dseq later : ℕ) (limit : Option ℕ) (p : Pending) → dseq ≤ later → IsCounted dseq limit p → IsCounted later limit p
counted_later dseq later limit p l h = record { least = h.least; most = let q : p.count ≤ dseq = h.most in omega (arith, q, l); within = h.within }

module _ (c : Consumer) (p : Pending) (dseq : ℕ) (can : CanDeliver c p dseq) where
  next : dseq ≡ c.dseq + 1
  next = can.next

  picks_below : (low : ℕ) → Between (λ n. n) low c.cursor c.picks → Between (λ n. n) low (max c.cursor (p.seq + 1)) (filter (λ n. not (n == p.seq)) c.picks)
  picks_below low h = between_higher (λ n. n) low c.cursor (max c.cursor (p.seq + 1)) (filter (λ n. not (n == p.seq)) c.picks) (omega arith) (part_between (λ n. n) low c.cursor (filter_part _ c.picks) h)

  few_picks : length (filter (λ n. not (n == p.seq)) c.picks) ≤ length c.picks
  few_picks = part-length (filter_part (λ n. not (n == p.seq)) c.picks)

  pub delivered_replayable : IsReplayable c → IsReplayable (delivered_to p dseq c)
  delivered_replayable k = record {
    progress = record {
      picks = picks_below 0 k.progress.picks;
      pending = pending_between c p 0 (omega arith) k.progress.pending;
      given_up = between_higher (λ n. n) 0 c.cursor (max c.cursor (p.seq + 1)) c.given_up (omega arith) k.progress.given_up;
      picks_pending = picks_apart c p k.progress.picks_pending;
      picks_given_up = apart-parts (filter_part _ c.picks) (all_part c.given_up) k.progress.picks_given_up;
      pending_given_up = given_up_apart c p can.not_given_up k.progress.pending_given_up;
      counts = pending_all c p (λ e. e.count ≤ dseq) can.counted.most (All-weaker (λ e. e.count ≤ c.dseq) (λ e. e.count ≤ dseq) (λ e h. omega (arith, h, next)) c.pending k.progress.counts);
      few_picks = let q : length c.picks < 2 ^ 32 = k.progress.few_picks in omega (arith, few_picks, q);
      few_delivered = omega (arith, few);
    };
    few = few;
    waiting = k.waiting;
    mark = k.mark;
  }
    where
      few : length (pending_with p c) + length c.given_up ≤ 131072
      few = go (grows c p 0 k.progress.pending can.room)
        where
          before : length c.pending + length c.given_up ≤ 131072
          before = k.few

          go : Grows c p → length (pending_with p c) + length c.given_up ≤ 131072
          go (inl h) = omega (arith, h, before)
          go (inr h) = omega (arith, h.0, h.1, h.2)

  delivered_sound : (messages : List Message) (last : ℕ) → IsStoredSeq messages last p.seq → IsWellStoredConsumer messages last c → IsWellStoredConsumer messages last (delivered_to p dseq c)
  delivered_sound messages last s k = record {
    config = k.config;
    named = k.named;
    cursor = let q : c.cursor ≤ last + 1 = k.cursor in let r : p.seq ≤ last = s.most in omega (arith, q, r);
    picks = picks_below 1 k.picks;
    pending = pending_between c p 1 s.least k.pending;
    given_up = between_higher (λ n. n) 1 c.cursor (max c.cursor (p.seq + 1)) c.given_up (omega arith) k.given_up;
    picks_stored = record { stored = λ n e. k.picks_stored.stored n (has-part n (filter_part _ c.picks) e) };
    pending_stored = record { stored = λ n e. stored n (pending_has c p n e) };
    given_up_stored = k.given_up_stored;
    picks_pending = picks_apart c p k.picks_pending;
    picks_given_up = apart-parts (filter_part _ c.picks) (all_part c.given_up) k.picks_given_up;
    pending_given_up = given_up_apart c p can.not_given_up k.pending_given_up;
    counts = pending_all c p (IsCounted dseq c.config.max_deliver) can.counted (All-weaker (IsCounted c.dseq c.config.max_deliver) (IsCounted dseq c.config.max_deliver) (λ e h. counted_later c.dseq dseq c.config.max_deliver e (omega (arith, next)) h) c.pending k.counts);
    unacknowledged_pending = λ e. none_waits c p e ∙ k.unacknowledged_pending e;
    unacknowledged_given_up = k.unacknowledged_given_up;
    push = k.push;
  }
    where
      stored : (n : ℕ) → (has (seqs_of c.pending) n ≡ true) ⊎ (p.seq ≡ n) → has (seqs messages) n ≡ true
      stored n (inl e) = k.pending_stored.stored n e
      stored n (inr e) = subst (λ (n : ℕ). has (seqs messages) n ≡ true) e s.stored

  delivered_bounded : Between (λ e. e.seq) 1 c.cursor c.pending → IsBoundedConsumer c → IsBoundedConsumer (delivered_to p dseq c)
  delivered_bounded h k = record {
    made = k.made;
    cursor = let q : c.cursor ≤ 2 ^ 62 = k.cursor in let r : p.seq < 2 ^ 62 = can.seq in omega (arith, q, r);
    dseq = can.number;
    picks = let q : length c.picks ≤ 65536 = k.picks in omega (arith, few_picks, q);
    pending = go (grows c p 1 h can.room);
    entries = pending_all c p IsBoundedEntry (record { count = let q : p.count ≤ dseq = can.counted.most in let r : dseq < 2 ^ 62 = can.number in omega (arith, q, r); due = can.due }) k.entries;
    given_up = k.given_up;
  }
    where
      before : length c.pending ≤ 65536
      before = k.pending

      go : Grows c p → length (pending_with p c) ≤ 65536
      go (inl h) = omega (arith, h, before)
      go (inr h) = omega (arith, h.0, h.2)

  pub delivered_keeps : KeepsWith p.seq c (delivered_to p dseq c)
  delivered_keeps = record { kept = λ messages last s h. record { stored = delivered_sound messages last s h.stored; bounded = delivered_bounded h.stored.pending h.bounded } }

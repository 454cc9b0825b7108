-- A sound stream at a later moment is sound.
use Rattle.std.proofs.Common.{◌≡◌, ℕ, ◌+◌, ◌<◌, ◌≤◌, Bool, true, false, not, cond, List, [], ◌∷◌, map, refl, sym, ap, ◌∙◌, subst, arith, max, ◌⊎◌, inl, inr}
use Rattle.std.specs.Prelude.{filter, fold, nat_lt, ◌==◌}
use Rattle.std.proofs.lemmas.Bool.{true≢false, or_cases, or_from, ltb-true, ltb-false, eqb-true, ne_eqb, or_parts, eqb-false, false_from_ne_true, or_right, or_left}
use Rattle.std.proofs.lemmas.List.Elements.{All-filter, All-map, All-weaker}
use Rattle.js_base.specs.Bytes.{has, last_of}
use Rattle.js_model.specs.Lists.{Apart, Between, IsPart, keep, none, skip}
use Rattle.js_model.specs.declared.stream.Message.{Message}
use Rattle.js_model.specs.declared.stream.Id.{Id}
use Rattle.js_model.specs.declared.stream.Stream.{Stream}
use Rattle.js_model.specs.declared.consumer.Pending.{Pending}
use Rattle.js_model.specs.declared.consumer.Pull.{Pull}
use Rattle.js_model.specs.declared.consumer.Consumer.{Consumer}
use Rattle.js_model.specs.Streams.{pending_seqs}
use Rattle.js_model.specs.Advance.{advance, aged, young, consumer_at, placed, is_spent, all_given_up, beaten, is_over}
use Rattle.model_laws.proofs.Whole.{IsStored, IsCounted, IsSoundConsumer, IsSoundStream, AreDifferent}
use Rattle.js_model.proofs.Parts.{all_part, filter_part, drop_part, part_map, young_part, part_between, between_lower, between_map}
use Rattle.js_model.proofs.Lacking.{apart-parts, has-part, has-placed, has-all_placed, lacks-part}
use Rattle.model_laws.proofs.SoundParts.{sound_only, ordered_map}

-- ---- numbers at their places

-- a number of an ascending list lies in its bounds
pub has_between : (n low high : ℕ) (xs : List ℕ) → Between (λ n. n) low high xs → has xs n ≡ true → low ≤ n
has_between n low high [] h k = absurd (true≢false (sym k))
has_between n low high (x ∷ xs) h k = go (has_between n (x + 1) high xs h.1) (or_cases (x == n) (has xs n) k)
  where
    go : (has xs n ≡ true → x + 1 ≤ n) → ((x == n) ≡ true) ⊎ (has xs n ≡ true) → low ≤ n
    go f (inl e) = let q : x ≡ n = eqb-true x n e in let r : low ≤ x = h.0 in omega arith
    go f (inr e) = let q : x + 1 ≤ n = f e in let r : low ≤ x = h.0 in omega arith

pub between_placed : (low high n : ℕ) (xs : List ℕ) → Between (λ n. n) low high xs → low ≤ n → n < high → has xs n ≡ false → Between (λ n. n) low high (placed xs n)
between_placed low high n [] h l g e = (l, omega arith)
between_placed low high n (x ∷ xs) h l g e = go (nat_lt x n) refl (between_placed (x + 1) high n xs h.1)
  where
    go : (b : Bool) → nat_lt x n ≡ b → (x + 1 ≤ n → n < high → has xs n ≡ false → Between (λ n. n) (x + 1) high (placed xs n)) → Between (λ n. n) low high (cond b (x ∷ placed xs n) (n ∷ x ∷ xs))
    go true q f = (h.0, f (let w : x < n = ltb-true x n q in omega arith) g (or_parts _ _ e).1)
    go false q f = (l, (let w : n ≤ x = ltb-false x n q in let d : x ≡ n → ⊥ = eqb-false x n (or_parts _ _ e).0 in omega (arith, d), h.1))

pub between_all_placed : (low high : ℕ) (xs ns : List ℕ) → Between (λ n. n) low high xs → Between (λ n. n) low high ns → Apart ns xs → Between (λ n. n) low high (fold placed xs ns)
between_all_placed low high xs [] h k a = h
between_all_placed low high xs (n ∷ ns) h k a =
    between_all_placed low high (placed xs n) ns
    (between_placed low high n xs h k.0 (below ns (n + 1) k.1 (omega arith)) (a.apart n (or_left (n == n) (has ns n) (self n))))
    (between_lower (λ n. n) low (n + 1) high ns (let q : low ≤ n = k.0 in omega arith) k.1)
    (record { apart = later })
  where
    self : (n : ℕ) → (n == n) ≡ true
    self n = rule (n == n) refl
      where
        rule : (b : Bool) → (n == n) ≡ b → (n == n) ≡ true
        rule true e = e
        rule false e = absurd (eqb-false n n e refl)

    below : (ms : List ℕ) (m : ℕ) → Between (λ n. n) m high ms → n < m → n < high
    below [] m q l = let w : m ≤ high = q in omega arith
    below (x ∷ ms) m q l = below ms (x + 1) q.1 (let w : m ≤ x = q.0 in omega arith)

    later : (m : ℕ) → has ns m ≡ true → has (placed xs n) m ≡ false
    later m e = false_from_ne_true (has (placed xs n) m) (λ w. cases (has-placed xs n m w))
      where
        cases : (has xs m ≡ true) ⊎ (n ≡ m) → ⊥
        cases (inl w) = true≢false (sym w ∙ a.apart m (or_right (n == m) (has ns m) e))
        cases (inr w) = let q : n + 1 ≤ m = has_between m (n + 1) high ns k.1 e in absurd (omega arith)

-- ---- entries that are spent, and those that stay

abbrev spent : ℕ → Consumer → List ℕ
spent now c = map (λ p. p.seq) (filter (is_spent now c) c.pending)

abbrev left : ℕ → Consumer → List ℕ
left now c = map (λ p. p.seq) (filter (λ p. not (is_spent now c p)) c.pending)

spent_part : (now : ℕ) (c : Consumer) → IsPart (spent now c) (pending_seqs c)
spent_part now c = part_map (λ p. p.seq) (filter_part (is_spent now c) c.pending)

left_part : (now : ℕ) (c : Consumer) → IsPart (left now c) (pending_seqs c)
left_part now c = part_map (λ p. p.seq) (filter_part (λ p. not (is_spent now c p)) c.pending)

-- an ascending list is cut in two lists apart
cut_apart : (t : Pending → Bool) (low high : ℕ) (ps : List Pending) → Between (λ p. p.seq) low high ps
    → Apart (map (λ p. p.seq) (filter (λ p. not (t p)) ps)) (map (λ p. p.seq) (filter t ps))
cut_apart t low high [] h = record { apart = λ n e. refl }
cut_apart t low high (p ∷ ps) h = go (t p) (cut_apart t (p.seq + 1) high ps h.1)
  where
    stay : List ℕ
    stay = map (λ p. p.seq) (filter (λ p. not (t p)) ps)

    go_away : List ℕ
    go_away = map (λ p. p.seq) (filter t ps)

    above : (ns : List ℕ) → IsPart ns (map (λ p. p.seq) ps) → has ns p.seq ≡ false
    above ns q = false_from_ne_true (has ns p.seq) (λ e. let w : p.seq + 1 ≤ p.seq = has_between p.seq (p.seq + 1) high (map (λ p. p.seq) ps) (between_map (λ n. n) (λ p. p.seq) (p.seq + 1) high ps h.1) (has-part p.seq q e) in absurd (omega arith))

    first : (xs ys : List ℕ) → has xs p.seq ≡ false → Apart xs ys → Apart xs (p.seq ∷ ys)
    first xs ys e a = record { apart = λ n w. or_from (p.seq == n) (has ys n) (ne_eqb p.seq n (λ q. true≢false (sym w ∙ subst (λ (m : ℕ). has xs m ≡ false) q e))) (a.apart n w) }

    second : (xs ys : List ℕ) → has ys p.seq ≡ false → Apart xs ys → Apart (p.seq ∷ xs) ys
    second xs ys e a = record { apart = λ n w. cases n (or_cases (p.seq == n) (has xs n) w) }
      where
        cases : (n : ℕ) → ((p.seq == n) ≡ true) ⊎ (has xs n ≡ true) → has ys n ≡ false
        cases n (inl q) = subst (λ (m : ℕ). has ys m ≡ false) (eqb-true p.seq n q) e
        cases n (inr q) = a.apart n q

    go : (b : Bool) → Apart stay go_away → Apart (map (λ p. p.seq) (cond (not b) (p ∷ filter (λ p. not (t p)) ps) (filter (λ p. not (t p)) ps))) (map (λ p. p.seq) (cond b (p ∷ filter t ps) (filter t ps)))
    go true a = first stay go_away (above stay (part_map (λ p. p.seq) (filter_part _ ps))) a
    go false a = second stay go_away (above go_away (part_map (λ p. p.seq) (filter_part _ ps))) a

-- a sequence that is given up was so before, or waited
given_up_from : (now : ℕ) (c : Consumer) (n : ℕ) → has (all_given_up now c) n ≡ true → (has c.given_up n ≡ true) ⊎ (has (spent now c) n ≡ true)
given_up_from now c n h = has-all_placed c.given_up (spent now c) n (has-part n (drop_part _ (fold placed c.given_up (spent now c))) h)

apart_given_up : (now : ℕ) (c : Consumer) (xs : List ℕ) → Apart xs c.given_up → Apart xs (spent now c) → Apart xs (all_given_up now c)
apart_given_up now c xs a b = record { apart = λ n e. false_from_ne_true (has (all_given_up now c) n) (λ w. cases n e (given_up_from now c n w)) }
  where
    cases : (n : ℕ) → has xs n ≡ true → (has c.given_up n ≡ true) ⊎ (has (spent now c) n ≡ true) → ⊥
    cases n e (inl w) = true≢false (sym w ∙ a.apart n e)
    cases n e (inr w) = true≢false (sym w ∙ b.apart n e)

none_given_up : (now : ℕ) (c : Consumer) → c.pending ≡ [] → c.given_up ≡ [] → all_given_up now c ≡ []
none_given_up now c e f =
    ap (λ (ps : List Pending). last_of 65536 (fold placed c.given_up (map (λ p. p.seq) (filter (is_spent now c) ps)))) e
    ∙ ap (λ (ns : List ℕ). last_of 65536 ns) f

pub consumer_at_sound : (messages : List Message) (last now : ℕ) (c : Consumer) → IsSoundConsumer messages last c → IsSoundConsumer messages last (consumer_at now c)
consumer_at_sound messages last now c k = record {
  config = k.config;
  named = k.named;
  cursor = k.cursor;
  picks = k.picks;
  pending = part_between (λ p. p.seq) 1 c.cursor (filter_part _ c.pending) k.pending;
  given_up = part_between (λ n. n) 1 c.cursor (drop_part _ (fold placed c.given_up (spent now c))) (between_all_placed 1 c.cursor c.given_up (spent now c) k.given_up spent_between (apart-parts (spent_part now c) (all_part c.given_up) k.pending_given_up));
  picks_stored = k.picks_stored;
  pending_stored = record { stored = λ n e. k.pending_stored.stored n (has-part n (left_part now c) e) };
  given_up_stored = record { stored = λ n e. stored n (given_up_from now c n e) };
  picks_pending = apart-parts (all_part c.picks) (left_part now c) k.picks_pending;
  picks_given_up = apart_given_up now c c.picks k.picks_given_up (apart-parts (all_part c.picks) (spent_part now c) k.picks_pending);
  pending_given_up = apart_given_up now c (left now c) (apart-parts (left_part now c) (all_part c.given_up) k.pending_given_up) (cut_apart (is_spent now c) 1 c.cursor c.pending k.pending);
  counts = All-filter _ (IsCounted c.dseq c.config.max_deliver) c.pending k.counts;
  unacknowledged_pending = λ e. ap (filter (λ p. not (is_spent now c p))) (k.unacknowledged_pending e);
  unacknowledged_given_up = λ e. none_given_up now c (k.unacknowledged_pending e) (k.unacknowledged_given_up e);
  push = λ e. ap (λ (ps : List Pull). map (beaten now) (filter (λ p. not (is_over now p)) ps)) (k.push e);
}
  where
    spent_between : Between (λ n. n) 1 c.cursor (spent now c)
    spent_between = between_map (λ n. n) (λ p. p.seq) 1 c.cursor (filter (is_spent now c) c.pending) (part_between (λ p. p.seq) 1 c.cursor (filter_part _ c.pending) k.pending)

    stored : (n : ℕ) → (has c.given_up n ≡ true) ⊎ (has (spent now c) n ≡ true) → IsStored messages c.config.filter_subject n
    stored n (inl e) = k.given_up_stored.stored n e
    stored n (inr e) = k.pending_stored.stored n (has-part n (spent_part now c) e)

-- ---- the stream

pub different_part : {is js : List Id} → IsPart is js → AreDifferent js → AreDifferent is
different_part none h = h
different_part (keep p) h = (lacks-part p h.0, different_part p h.1)
different_part (skip p) h = different_part p h.1

aged_sound : (s : Stream) (now : ℕ) → IsSoundStream s → IsSoundStream (aged s now)
aged_sound s now h = let k = sound_only s (young s now) (young_part s now) h in record {
  config = k.config;
  messages = k.messages;
  consumers = k.consumers;
  ordered = k.ordered;
  ids = different_part (filter_part _ s.ids) h.ids;
}

pub sound_time : (s : Stream) (now : ℕ) → IsSoundStream s → IsSoundStream (advance s now)
unfolding advance
sound_time s now h = let t = max s.moment now in let a = aged s (max s.moment now) in let k = aged_sound s (max s.moment now) h in record {
  config = k.config;
  messages = k.messages;
  consumers =
      All-map (IsSoundConsumer a.messages a.last) (consumer_at t) a.consumers
      (All-weaker (IsSoundConsumer a.messages a.last) (λ c. IsSoundConsumer a.messages a.last (consumer_at t c)) (λ c q. consumer_at_sound a.messages a.last t c q) a.consumers k.consumers);
  ordered = ordered_map (consumer_at t) (λ c. refl) a.consumers k.ordered;
  ids = k.ids;
}

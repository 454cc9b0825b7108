-- A sound stream with only a part of its messages is sound.
use Rattle.std.proofs.Common.{◌≡◌, ℕ, ◌+◌, Bool, true, false, ◌&&◌, ◌||◌, cond, List, [], ◌∷◌, map, refl, sym, ap, ◌∙◌, subst, arith}
use Rattle.std.specs.Prelude.{filter, ◌==◌}
use Rattle.std.specs.List.{list_any}
use Rattle.std.proofs.lemmas.Bool.{true≢false, eqb-true, or_left, or_right}
use Rattle.std.proofs.lemmas.List.Elements.{All-filter, All-map, All-weaker}
use Rattle.js_base.specs.Bytes.{Bytes, has}
use Rattle.js_model.specs.Lists.{Between, IsPart, keep, none, skip}
use Rattle.js_model.specs.declared.stream.Message.{Message}
use Rattle.js_model.specs.declared.stream.Stream.{Stream}
use Rattle.js_model.specs.declared.consumer.Consumer.{Consumer}
use Rattle.js_model.specs.Streams.{confined, only, seqs, passes_filter, pending_seqs}
use Rattle.js_model.specs.Consumers.{is_before}
use Rattle.model_laws.proofs.Whole.{AreStored, IsCounted, IsSoundConsumer, IsSoundStream, AreOrdered}
use Rattle.js_model.proofs.Parts.{filter_part, none_below, part_between}
use Rattle.js_model.proofs.Lacking.{apart-parts, has-part}

-- ---- what a filter leaves

pub has-filter : (p : ℕ → Bool) (xs : List ℕ) (n : ℕ) → has (filter p xs) n ≡ true → p n ≡ true
has-filter p [] n h = absurd (true≢false (sym h))
has-filter p (x ∷ xs) n h = go (p x) refl (has-filter p xs n) h
  where
    go : (b : Bool) → p x ≡ b → (has (filter p xs) n ≡ true → p n ≡ true) → has (cond b (x ∷ filter p xs) (filter p xs)) n ≡ true → p n ≡ true
    go true e f k = either (x == n) refl k
      where
        either : (c : Bool) → (x == n) ≡ c → (c || has (filter p xs) n) ≡ true → p n ≡ true
        either true q w = subst (λ (m : ℕ). p m ≡ true) (eqb-true x n q) e
        either false q w = f w
    go false e f k = f k

pub has-kept : (p : ℕ → Bool) (xs : List ℕ) (n : ℕ) → has xs n ≡ true → p n ≡ true → has (filter p xs) n ≡ true
has-kept p [] n h e = h
has-kept p (x ∷ xs) n h e = go (x == n) refl (λ k. has-kept p xs n k e) h
  where
    later : (b : Bool) → has (filter p xs) n ≡ true → has (cond b (x ∷ filter p xs) (filter p xs)) n ≡ true
    later true k = or_right (x == n) (has (filter p xs) n) k
    later false k = k

    go : (b : Bool) → (x == n) ≡ b → (has xs n ≡ true → has (filter p xs) n ≡ true) → (b || has xs n) ≡ true → has (cond (p x) (x ∷ filter p xs) (filter p xs)) n ≡ true
    go true q f k = subst (λ (b : Bool). has (cond b (x ∷ filter p xs) (filter p xs)) n ≡ true) (sym (ap p (eqb-true x n q) ∙ e)) (or_left (x == n) (has (filter p xs) n) q)
    go false q f k = later (p x) (f k)

pub map-filter : {X Y : Type 0} (f : X → Y) (p : Y → Bool) (xs : List X) → map f (filter (λ x. p (f x)) xs) ≡ filter p (map f xs)
map-filter f p [] = refl
map-filter f p (x ∷ xs) = go (p (f x)) (map-filter f p xs)
  where
    go : (b : Bool) → map f (filter (λ x. p (f x)) xs) ≡ filter p (map f xs) → map f (cond b (x ∷ filter (λ x. p (f x)) xs) (filter (λ x. p (f x)) xs)) ≡ cond b (f x ∷ filter p (map f xs)) (filter p (map f xs))
    go true e = ap (λ l. f x ∷ l) e
    go false e = e

-- ---- messages of one sequence

-- a message that the part has, and that is found among all, is found in the part
pub found_in_part : (t : Message → Bool) (n low high : ℕ) {ys xs : List Message} → IsPart ys xs → Between (λ m. m.seq) low high xs
    → list_any (λ m. m.seq == n && t m) xs ≡ true → has (seqs ys) n ≡ true → list_any (λ m. m.seq == n && t m) ys ≡ true
found_in_part t n low high none h found there = absurd (true≢false (sym found))
found_in_part t n low high (keep {x = x} {ys = ys} {xs = xs} p) h found there = go (x.seq == n) refl (found_in_part t n (x.seq + 1) high p h.1) found there
  where
    go : (b : Bool) → (x.seq == n) ≡ b → (list_any (λ m. m.seq == n && t m) xs ≡ true → has (seqs ys) n ≡ true → list_any (λ m. m.seq == n && t m) ys ≡ true) → ((b && t x) || list_any (λ m. m.seq == n && t m) xs) ≡ true → (b || has (seqs ys) n) ≡ true → ((b && t x) || list_any (λ m. m.seq == n && t m) ys) ≡ true
    go true e r f k = own (t x) f
      where
        own : (b : Bool) → (b || list_any (λ m. m.seq == n && t m) xs) ≡ true → (b || list_any (λ m. m.seq == n && t m) ys) ≡ true
        own true g = refl
        own false g = absurd (true≢false (sym g ∙ none_below (λ m. m.seq) t n (x.seq + 1) high xs h.1 (let q : x.seq ≡ n = eqb-true x.seq n e in omega arith)))
    go false e r f k = r f k
found_in_part t n low high (skip {x = x} {ys = ys} {xs = xs} p) h found there = go (x.seq == n) refl (λ f. found_in_part t n (x.seq + 1) high p h.1 f there) found
  where
    above : has (seqs xs) n ≡ true
    above = has-part n (seqs_part p) there
      where
        seqs_part : {ys xs : List Message} → IsPart ys xs → IsPart (seqs ys) (seqs xs)
        seqs_part none = none
        seqs_part (keep p) = keep (seqs_part p)
        seqs_part (skip p) = skip (seqs_part p)

    -- the first one's sequence is not among the later
    apart : (x.seq == n) ≡ true → ⊥
    apart e = true≢false (sym (as_any xs above) ∙ none_below (λ m. m.seq) (λ m. true) n (x.seq + 1) high xs h.1 (let q : x.seq ≡ n = eqb-true x.seq n e in omega arith))
      where
        as_any : (ms : List Message) → has (seqs ms) n ≡ true → list_any (λ m. m.seq == n && true) ms ≡ true
        as_any [] k = k
        as_any (m ∷ ms) k = step (m.seq == n) (as_any ms) k
          where
            step : (b : Bool) → (has (seqs ms) n ≡ true → list_any (λ m. m.seq == n && true) ms ≡ true) → (b || has (seqs ms) n) ≡ true → ((b && true) || list_any (λ m. m.seq == n && true) ms) ≡ true
            step true f w = refl
            step false f w = f w

    go : (b : Bool) → (x.seq == n) ≡ b → (list_any (λ m. m.seq == n && t m) xs ≡ true → list_any (λ m. m.seq == n && t m) ys ≡ true) → ((b && t x) || list_any (λ m. m.seq == n && t m) xs) ≡ true → list_any (λ m. m.seq == n && t m) ys ≡ true
    go true e r f = absurd (apart e)
    go false e r f = r f

pub stored_in_part : (pattern : Bytes) (high : ℕ) {ys xs : List Message} {ns : List ℕ} → IsPart ys xs → Between (λ m. m.seq) 1 high xs → AreStored xs pattern ns → AreStored ys pattern (filter (has (seqs ys)) ns)
stored_in_part pattern high {ys = ys} {ns = ns} p h k = record {
  stored = λ n e. found_in_part (λ m. passes_filter pattern m.subject) n 1 high p h (k.stored n (has-part n (filter_part _ ns) e)) (has-filter (has (seqs ys)) ns n e);
}

-- ---- the consumer, and the stream

pub confined_pending : (ns : List ℕ) (c : Consumer) → pending_seqs (confined ns c) ≡ filter (has ns) (pending_seqs c)
confined_pending ns c = map-filter (λ p. p.seq) (has ns) c.pending

pub confined_sound : (last : ℕ) {ys xs : List Message} (c : Consumer) → IsPart ys xs → Between (λ m. m.seq) 1 (last + 1) xs → IsSoundConsumer xs last c → IsSoundConsumer ys last (confined (seqs ys) c)
confined_sound last {ys = ys} {xs = xs} c p h k = record {
  config = k.config;
  named = k.named;
  cursor = k.cursor;
  picks = part_between (λ n. n) 1 c.cursor (filter_part _ c.picks) k.picks;
  pending = part_between (λ p. p.seq) 1 c.cursor (filter_part _ c.pending) k.pending;
  given_up = part_between (λ n. n) 1 c.cursor (filter_part _ c.given_up) k.given_up;
  picks_stored = stored_in_part c.config.filter_subject (last + 1) p h k.picks_stored;
  pending_stored = rw (confined_pending (seqs ys) c) (stored_in_part c.config.filter_subject (last + 1) p h k.pending_stored);
  given_up_stored = stored_in_part c.config.filter_subject (last + 1) p h k.given_up_stored;
  picks_pending = rw (confined_pending (seqs ys) c) (apart-parts (filter_part _ c.picks) (filter_part _ (pending_seqs c)) k.picks_pending);
  picks_given_up = apart-parts (filter_part _ c.picks) (filter_part _ c.given_up) k.picks_given_up;
  pending_given_up = rw (confined_pending (seqs ys) c) (apart-parts (filter_part _ (pending_seqs c)) (filter_part _ c.given_up) k.pending_given_up);
  counts = All-filter _ (IsCounted c.dseq c.config.max_deliver) c.pending k.counts;
  unacknowledged_pending = λ e. ap (filter (λ p. has (seqs ys) p.seq)) (k.unacknowledged_pending e);
  unacknowledged_given_up = λ e. ap (filter (has (seqs ys))) (k.unacknowledged_given_up e);
  push = k.push;
}

-- a change that keeps names keeps their order
pub ordered_map : (f : Consumer → Consumer) → ((c : Consumer) → (f c).name ≡ c.name) → (cs : List Consumer) → AreOrdered cs → AreOrdered (map f cs)
ordered_map f n [] h = tt
ordered_map f n (c ∷ cs) h = (
  All-map (λ d. is_before (f c).name d.name ≡ true) f cs (All-weaker (λ d. is_before c.name d.name ≡ true) (λ d. is_before (f c).name (f d).name ≡ true) (λ d e. rw (n c, n d) e) cs h.0),
  ordered_map f n cs h.1,
)

pub sound_only : (s : Stream) (messages : List Message) → IsPart messages s.messages → IsSoundStream s → IsSoundStream (only s messages)
sound_only s messages p h = record {
  config = h.config;
  messages = part_between (λ m. m.seq) 1 (s.last + 1) p h.messages;
  consumers =
      All-map (IsSoundConsumer messages s.last) (confined (seqs messages)) s.consumers
      (All-weaker (IsSoundConsumer s.messages s.last) (λ c. IsSoundConsumer messages s.last (confined (seqs messages) c)) (λ c k. confined_sound s.last c p h.messages k) s.consumers h.consumers);
  ordered = ordered_map (confined (seqs messages)) (λ c. refl) s.consumers h.ordered;
  ids = h.ids;
}

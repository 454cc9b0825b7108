-- How many messages are still to be delivered after a delivery.
use Rattle.std.proofs.Common.{◌≡◌, ℕ, ◌+◌, ◌-◌, ◌<◌, ◌≤◌, Bool, true, false, ◌&&◌, ◌||◌, not, cond, List, [], ◌∷◌, length, take, ◌^◌, ◌≢◌, refl, sym, ap, ◌∙◌, subst, arith, ◌⊎◌, inl, inr}
use Rattle.std.specs.Prelude.{Option, Some, None, filter, find, max, nat_le, ◌==◌, Contains}
use Rattle.std.specs.List.{list_any}
use Rattle.std.proofs.lemmas.Bool.Decides.{leb_tells}
use Rattle.std.proofs.lemmas.Bool.{and_parts, eqb-true, eq-eqb, le-leb, lt-leb, ne_eqb, true≢false}
use Rattle.js_base.specs.Bytes.{has}
use Rattle.js_model.specs.declared.stream.Message.{Message}
use Rattle.js_model.specs.declared.stream.Stream.{Stream}
use Rattle.js_model.specs.declared.consumer.Consumer.{Consumer}
use Rattle.js_model.specs.declared.consumer.Pending.{Pending}
use Rattle.js_model.specs.Counts.{pending_count}
use Rattle.js_model.specs.Deliver.{candidates, count_of, due_messages, front_allows, is_due, may_wait, next_message, or_next, sent_to}
use Rattle.js_model.specs.Lists.{Between}
use Rattle.js_model.specs.Streams.{below_limit, is_push, pending_seqs, sent_size, takes}
use Rattle.js_model.proofs.Candidates.{IsCandidate, IsReason, again, candidate_is, onward, picked}
use Rattle.js_model.proofs.Members.{IsIn, any_in, find_none, find_one, here, in_any, in_bounds, in_filter, in_from_contains, there}
use Rattle.js_model.proofs.Named.{some_is}
use Rattle.js_model.proofs.Parts.{between_map}
use Rattle.stream_view.specs.Order.{IsInOrder}
use Rattle.consumer_progress.specs.Progresses.{progress_of, IsProgress}
use Rattle.consumer_state.specs.Delivering.{left_after}
use Rattle.consumer_state.specs.Keeping.{IsConsumer}
use Rattle.consumer_state.specs.Sending.{IsSendable}
use Rattle.consumer_state.proofs.Filters.{any_map}
use Rattle.consumer_state.proofs.Offers.{before_last, take_found, take_none}

abbrev Ascending : ℕ → ℕ → List Message → Type 0
Ascending low high ms = Between (λ m. m.seq) low high ms

and_true : (b : Bool) → (b && true) ≡ b
and_true true = refl
and_true false = refl

and_false : (b : Bool) → (b && false) ≡ false
and_false true = refl
and_false false = refl

same_kept : (t u : Message → Bool) (ms : List Message) → ((m : Message) → IsIn m ms → t m ≡ u m) → filter t ms ≡ filter u ms
same_kept t u [] f = refl
same_kept t u (m ∷ ms) f =
    ap (λ b. cond b (m ∷ filter t ms) (filter t ms)) (f m here) ∙ ap (λ l. cond (u m) (m ∷ l) l) (same_kept t u ms (λ x i. f x (there i)))

abbrev one_of : Bool → ℕ
one_of true = 1
one_of false = 0

-- ---- without one message

other : (t : Message → Bool) (n : ℕ) (x : Message) → n < x.seq → (t x && not (x.seq == n)) ≡ t x
other t n x l = ap (λ b. t x && not b) (ne_eqb x.seq n (omega arith)) ∙ and_true (t x)

others : (t : Message → Bool) (n low high : ℕ) (ms : List Message) → Ascending low high ms → n < low → filter (λ x. t x && not (x.seq == n)) ms ≡ filter t ms
others t n low high ms h l = same_kept (λ x. t x && not (x.seq == n)) t ms (λ x i. let b = in_bounds (λ z. z.seq) low high x ms h i in let q : low ≤ x.seq = b.0 in other t n x (omega arith))

counted : (t : Message → Bool) (low high : ℕ) (m : Message) (ms : List Message) → Ascending low high ms → IsIn m ms → length (filter (λ x. t x && not (x.seq == m.seq)) ms) + one_of (t m) ≡ length (filter t ms)
counted t low high m [] h i = elim i [ ]
counted t low high m (y ∷ ys) h here =
    ap (λ b. length (cond b (m ∷ filter (λ x. t x && not (x.seq == m.seq)) ys) (filter (λ x. t x && not (x.seq == m.seq)) ys)) + one_of (t m)) (ap (λ b. t m && not b) (eq-eqb m.seq m.seq refl) ∙ and_false (t m))
    ∙ ap (λ l. length l + one_of (t m)) (others t m.seq (m.seq + 1) high ys h.1 (omega arith))
    ∙ go (t m)
  where
    go : (b : Bool) → length (filter t ys) + one_of b ≡ length (cond b (m ∷ filter t ys) (filter t ys))
    go true = omega arith
    go false = omega arith
counted t low high m (y ∷ ys) h (there i) =
    let b = in_bounds (λ z. z.seq) (y.seq + 1) high m ys h.1 i in
    let q : y.seq + 1 ≤ m.seq = b.0 in
    ap (λ b. length (cond b (y ∷ filter (λ x. t x && not (x.seq == m.seq)) ys) (filter (λ x. t x && not (x.seq == m.seq)) ys)) + one_of (t m)) (ap (λ b. t y && not b) (ne_eqb y.seq m.seq (omega arith)) ∙ and_true (t y))
    ∙ go (t y) (counted t (y.seq + 1) high m ys h.1 i)
  where
    go : (b : Bool) → length (filter (λ x. t x && not (x.seq == m.seq)) ys) + one_of (t m) ≡ length (filter t ys)
        → length (cond b (y ∷ filter (λ x. t x && not (x.seq == m.seq)) ys) (filter (λ x. t x && not (x.seq == m.seq)) ys)) + one_of (t m) ≡ length (cond b (y ∷ filter t ys) (filter t ys))
    go true e = omega arith
    go false e = e

-- ---- why a message is a candidate

has_below : (high n : ℕ) (ns : List ℕ) → Between (λ n. n) 0 high ns → has ns n ≡ true → n < high
has_below high n ns h e =
    let w = in_any (λ k. k == n) ns e in
    let b = in_bounds (λ n. n) 0 high w.0 ns h w.1 in
    let q : w.0 ≡ n = eqb-true w.0 n w.2 in
    let r : w.0 < high = b.1 in
    omega arith

-- the candidate stands below the cursor, or it is the first that is not below
pub data IsPlaced (a : Stream) (c : Consumer) (m : Message) : Type 0 where
  below : m.seq < c.cursor → IsPlaced a c m
  first : c.cursor ≤ m.seq → c.picks ≡ [] → find (λ x. takes c x && nat_le c.cursor x.seq) a.messages ≡ Some m → IsPlaced a c m

in_take : (t : Message → Bool) (ms : List Message) (m : Message) → IsIn m (take 1 (filter t ms)) → find t ms ≡ Some m
in_take t ms m i = go (find t ms) refl
  where
    one : (x : Message) → IsIn m (x ∷ []) → x ≡ m
    one x here = refl
    one x (there i) = elim i [ ]

    go : (o : Option Message) → find t ms ≡ o → o ≡ Some m
    go None e = elim (subst (λ l. IsIn m l) (take_none t ms e) i) [ ]
    go (Some x) e = ap Some (one x (subst (λ l. IsIn m l) (take_found t ms x e) i))

pending_below : (c : Consumer) (p : IsProgress (progress_of c)) (n : ℕ) → has (pending_seqs c) n ≡ true → n < c.cursor
pending_below c p n e = has_below c.cursor n (pending_seqs c) (between_map (λ n. n) (λ (q : Pending). q.seq) 0 c.cursor c.pending p.pending) e

due_has : (now n : ℕ) (c : Consumer) → list_any (λ p. p.seq == n && is_due now c p) c.pending ≡ true → has (pending_seqs c) n ≡ true
due_has now n c e =
    let w = in_any (λ p. p.seq == n && is_due now c p) c.pending e in
    any_map (λ k. k == n) (λ (p : Pending). p.seq) c.pending ∙ any_in (λ p. p.seq == n) w.0 c.pending w.1 (and_parts _ _ w.2).0

pub placed_is : (a : Stream) (c : Consumer) (m : Message) → IsProgress (progress_of c) → Contains (candidates a c) m → IsPlaced a c m
placed_is a c m p h = by (candidate_is a c m h).reason
  where
    -- from the cursor on, it is none that is due
    at_next : c.cursor ≤ m.seq → c.picks ≡ [] → IsPlaced a c m
    at_next l e = first l e (in_next (due_messages a c) refl (in_from_contains (candidates a c) m h))
      where
        rest : IsIn m (or_next [] a c) → find (λ x. takes c x && nat_le c.cursor x.seq) a.messages ≡ Some m
        rest i = waits (may_wait c) i
          where
            waits : (b : Bool) → IsIn m (cond b (next_message c.picks a c) []) → find (λ x. takes c x && nat_le c.cursor x.seq) a.messages ≡ Some m
            waits true j = in_take (λ x. takes c x && nat_le c.cursor x.seq) a.messages m (subst (λ picks. IsIn m (next_message picks a c)) e j)
            waits false j = elim j [ ]

        none : IsIn m (due_messages a c) → ⊥
        none i =
            let b = pending_below c p m.seq (due_has a.moment m.seq c (in_filter (λ m. list_any (λ p. p.seq == m.seq && is_due a.moment c p) c.pending) m a.messages i).1) in
            omega arith

        among : (ms : List Message) → due_messages a c ≡ ms → IsIn m (or_next ms a c) → find (λ x. takes c x && nat_le c.cursor x.seq) a.messages ≡ Some m
        among [] k i = rest i
        among (x ∷ xs) k i = absurd (none (subst (λ l. IsIn m l) (sym k) i))

        in_next : (ms : List Message) → due_messages a c ≡ ms → IsIn m (candidates a c) → find (λ x. takes c x && nat_le c.cursor x.seq) a.messages ≡ Some m
        in_next ms k i = among ms k (subst (λ l. IsIn m l) (candidates_are ∙ ap (λ l. or_next l a c) k) i)
          where
            candidates_are : candidates a c ≡ or_next (due_messages a c) a c
            candidates_are = before_last a c (candidate_is a c m h).number

    by : IsReason a c m → IsPlaced a c m
    by (again e) = below (pending_below c p m.seq (due_has a.moment m.seq c e))
    by (picked pick rest e q w) =
        let b = in_bounds (λ n. n) 0 c.cursor pick c.picks p.picks (subst (λ picks. IsIn pick picks) (sym e) here) in
        let r : pick < c.cursor = b.1 in
        below (omega arith)
    by (onward e t l w) = at_next l e

-- ---- what is left

has_without : (n : ℕ) (ns : List ℕ) → has (filter (λ k. not (k == n)) ns) n ≡ false
has_without n [] = refl
has_without n (k ∷ ks) = go (k == n) refl (has_without n ks)
  where
    go : (b : Bool) → (k == n) ≡ b → has (filter (λ k. not (k == n)) ks) n ≡ false → has (cond (not b) (k ∷ filter (λ k. not (k == n)) ks) (filter (λ k. not (k == n)) ks)) n ≡ false
    go true e h = h
    go false e h = ap (λ b. b || has (filter (λ k. not (k == n)) ks) n) e ∙ h

pub has_other : (n i : ℕ) (ns : List ℕ) → (i == n) ≡ false → has (filter (λ k. not (k == n)) ns) i ≡ has ns i
has_other n i [] d = refl
has_other n i (k ∷ ks) d = go (k == n) refl (has_other n i ks d)
  where
    go : (b : Bool) → (k == n) ≡ b → has (filter (λ k. not (k == n)) ks) i ≡ has ks i → has (cond (not b) (k ∷ filter (λ k. not (k == n)) ks) (filter (λ k. not (k == n)) ks)) i ≡ ((k == i) || has ks i)
    go true e h = h ∙ sym (ap (λ b. b || has ks i) (apart (k == i) refl))
      where
        apart : (b : Bool) → (k == i) ≡ b → (k == i) ≡ false
        apart true f = absurd (true≢false (sym (eq-eqb i n (sym (eqb-true k i f) ∙ eqb-true k n e)) ∙ d))
        apart false f = f
    go false e h = ap (λ b. (k == i) || b) h

fails_before : (t : Message → Bool) (low high : ℕ) (m x : Message) (ms : List Message) → Ascending low high ms → find t ms ≡ Some m → IsIn x ms → x.seq < m.seq → t x ≡ false
fails_before t low high m x [] h e i l = elim i [ ]
fails_before t low high m x (y ∷ ys) h e here l = go (t x) refl e
  where
    go : (b : Bool) → t x ≡ b → cond b (Some x) (find t ys) ≡ Some m → t x ≡ false
    go true k f = let q : x.seq ≡ m.seq = ap (λ z. z.seq) (some_is f) in absurd (omega arith)
    go false k f = k
fails_before t low high m x (y ∷ ys) h e (there i) l = go (t y) e (λ f. fails_before t (y.seq + 1) high m x ys h.1 f i l)
  where
    go : (b : Bool) → cond b (Some y) (find t ys) ≡ Some m → (find t ys ≡ Some m → t x ≡ false) → t x ≡ false
    go true f more =
        let q : y.seq ≡ m.seq = ap (λ z. z.seq) (some_is f) in
        let b = in_bounds (λ z. z.seq) (y.seq + 1) high x ys h.1 i in
        let r : y.seq + 1 ≤ x.seq = b.0 in
        absurd (omega arith)
    go false f more = more f

abbrev waits : Consumer → Message → Bool
waits c x = takes c x && (has c.picks x.seq || nat_le c.cursor x.seq)

pub agrees : (now : ℕ) (a : Stream) (c : Consumer) (m : Message) → IsInOrder a → IsPlaced a c m → (x : Message) → IsIn x a.messages → waits (sent_to now m c) x ≡ (waits c x && not (x.seq == m.seq))
agrees now a c m order placed x i = go (x.seq == m.seq) refl
  where
    tested : (p q : Bool) → has (filter (λ k. not (k == m.seq)) c.picks) x.seq ≡ p → nat_le (max c.cursor (m.seq + 1)) x.seq ≡ q → waits (sent_to now m c) x ≡ (takes c x && (p || q))
    tested p q e f = ap (λ b. takes c x && (b || nat_le (max c.cursor (m.seq + 1)) x.seq)) e ∙ ap (λ b. takes c x && (p || b)) f

    elsewhere : IsPlaced a c m → (x.seq == m.seq) ≡ false → waits (sent_to now m c) x ≡ waits c x
    elsewhere (below l) d =
        let k : max c.cursor (m.seq + 1) ≡ c.cursor = omega arith in
        tested (has c.picks x.seq) (nat_le c.cursor x.seq) (has_other m.seq x.seq c.picks d) (ap (λ n. nat_le n x.seq) k)
    elsewhere (first l none e) d = side (leb_tells m.seq x.seq)
      where
        side : ((nat_le m.seq x.seq ≡ true) × (m.seq ≤ x.seq)) ⊎ ((nat_le m.seq x.seq ≡ false) × (x.seq < m.seq)) → waits (sent_to now m c) x ≡ waits c x
        side (inl w) =
            let le : m.seq ≤ x.seq = w.1 in
            let ne : x.seq ≢ m.seq = λ k. true≢false (sym (eq-eqb x.seq m.seq k) ∙ d) in
            let lt : m.seq < x.seq = omega arith in
            tested (has c.picks x.seq) (nat_le c.cursor x.seq) (has_other m.seq x.seq c.picks d) (le-leb (max c.cursor (m.seq + 1)) x.seq (omega arith) ∙ sym (le-leb c.cursor x.seq (omega arith)))
        side (inr w) =
            let lt : x.seq < m.seq = w.1 in
            tested false false (has_other m.seq x.seq c.picks d ∙ ap (λ ns. has ns x.seq) none) (lt-leb (max c.cursor (m.seq + 1)) x.seq (omega arith))
            ∙ and_false (takes c x)
            ∙ sym (ap (λ ns. takes c x && (has ns x.seq || nat_le c.cursor x.seq)) none ∙ fails_before (λ x. takes c x && nat_le c.cursor x.seq) 1 (a.last + 1) m x a.messages order.ascends e i lt)

    go : (b : Bool) → (x.seq == m.seq) ≡ b → waits (sent_to now m c) x ≡ (waits c x && not b)
    go true e =
        let k : x.seq ≡ m.seq = eqb-true x.seq m.seq e in
        tested false false (ap (has (filter (λ k. not (k == m.seq)) c.picks)) k ∙ has_without m.seq c.picks) (lt-leb (max c.cursor (m.seq + 1)) x.seq (omega arith))
        ∙ and_false (takes c x)
        ∙ sym (and_false (waits c x))
    go false e = elsewhere placed e ∙ sym (and_true (waits c x))

pub left_is : (now : ℕ) (a : Stream) (c : Consumer) (m : Message) → IsInOrder a → IsIn m a.messages → IsPlaced a c m → pending_count a (sent_to now m c) ≡ left_after c m (pending_count a c)
left_is now a c m order i placed =
    ap length (same_kept (waits (sent_to now m c)) (λ x. waits c x && not (x.seq == m.seq)) a.messages (agrees now a c m order placed))
    ∙ go (waits c m) (counted (waits c) 1 (a.last + 1) m a.messages order.ascends i)
  where
    rest : ℕ
    rest = length (filter (λ x. waits c x && not (x.seq == m.seq)) a.messages)

    go : (b : Bool) → rest + one_of b ≡ pending_count a c → rest ≡ cond b (pending_count a c - 1) (pending_count a c)
    go true e = omega arith
    go false e = omega arith

-- ---- a candidate can be sent

count_none : (c : Consumer) (n : ℕ) → has (pending_seqs c) n ≡ false → count_of c n ≡ 0
count_none c n e = let k : find (λ p. p.seq == n) c.pending ≡ None = find_none (λ p. p.seq == n) c.pending (sym (any_map (λ k. k == n) (λ (p : Pending). p.seq) c.pending) ∙ e) in rw k refl

has_not : (high n : ℕ) (ns : List ℕ) → Between (λ n. n) 0 high ns → high ≤ n → has ns n ≡ false
has_not high n ns h l = go (has ns n) refl
  where
    go : (b : Bool) → has ns n ≡ b → has ns n ≡ false
    go true e = let q : n < high = has_below high n ns h e in absurd (omega arith)
    go false e = e

module _ (a : Stream) (c : Consumer) (m : Message) (kept : IsConsumer c) (progress : IsProgress (progress_of c)) (order : IsInOrder a) (candidate : Contains (candidates a c) m) where
  facts : IsCandidate a c m
  facts = candidate_is a c m candidate

  not_given_up : IsReason a c m → has c.given_up m.seq ≡ false
  not_given_up (again e) = progress.pending_given_up.apart m.seq (due_has a.moment m.seq c e)
  not_given_up (picked pick rest e q w) = progress.picks_given_up.apart m.seq (ap (λ ns. has ns m.seq) e ∙ ap (λ b. b || has rest m.seq) (eq-eqb pick m.seq (sym q)))
  not_given_up (onward e t l w) = has_not c.cursor m.seq c.given_up progress.given_up l

  once : count_of c m.seq ≡ 0 → below_limit (count_of c m.seq) c.config.max_deliver ≡ true
  once e = ap (λ n. below_limit n c.config.max_deliver) e ∙ kept.once

  not_spent : IsReason a c m → below_limit (count_of c m.seq) c.config.max_deliver ≡ true
  not_spent (again e) =
      let w = find_one (λ (p : Pending). p.seq) (is_due a.moment c) m.seq 0 c.cursor c.pending progress.pending e in
      let k : find (λ (p : Pending). p.seq == m.seq) c.pending ≡ Some w.0 = w.1 in
      rw k (and_parts _ _ w.2).1
  not_spent (picked pick rest e q w) =
      once (count_none c m.seq (progress.picks_pending.apart m.seq (ap (λ ns. has ns m.seq) e ∙ ap (λ b. b || has rest m.seq) (eq-eqb pick m.seq (sym q)))))
  not_spent (onward e t l w) = once (count_none c m.seq (has_not c.cursor m.seq (pending_seqs c) (between_map (λ n. n) (λ (q : Pending). q.seq) 0 c.cursor c.pending progress.pending) l))

  pub sendable_is : (is_push c ≡ false → front_allows c.waiting (sent_size m) ≡ true) → IsSendable c m.seq (sent_size m)
  sendable_is asked = record {
    not_given_up = not_given_up facts.reason;
    again = not_spent facts.reason;
    bound = let b = in_bounds (λ z. z.seq) 1 (a.last + 1) m a.messages order.ascends facts.stored in let q : m.seq < a.last + 1 = b.1 in let r : a.last < 2 ^ 62 = order.bound in omega arith;
    dseq = let q : c.dseq < 2 ^ 62 - 1 = facts.number in omega arith;
    asked = asked;
  }

  pub left_after_is : (now : ℕ) → pending_count a (sent_to now m c) ≡ left_after c m (pending_count a c)
  left_after_is now = left_is now a c m order facts.stored (placed_is a c m progress candidate)

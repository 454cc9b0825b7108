-- What is read of a consumer before time has passed for it is so of the consumer after it.
use Rattle.std.proofs.Common.{◌≡◌, ℕ, ◌+◌, ◌-◌, ◌^◌, ◌<◌, ◌≤◌, Bool, true, false, ◌&&◌, ◌||◌, not, cond, List, [], ◌∷◌, length, map, refl, sym, ap, ◌∙◌, subst, arith}
use Rattle.std.specs.Prelude.{Option, Some, None, filter, find, is_some, nat_le, nat_lt, ◌==◌, option_map, unwrap_or, All}
use Rattle.std.specs.List.{list_any}
use Rattle.std.specs.Option.{option_to_list}
use Rattle.std.proofs.lemmas.Bool.{and_parts, eqb-true, eq-eqb, leb-false, leb-true, ltb-true, ne_eqb, true≢false}
use Rattle.std.proofs.lemmas.List.Elements.{All-head, All-tail}
use Rattle.js_base.specs.Bytes.{Bytes, has, is_empty}
use Rattle.js_model.specs.declared.stream.Message.{Message}
use Rattle.js_model.specs.declared.stream.Stream.{Stream}
use Rattle.js_model.specs.declared.consumer.Consumer.{Consumer}
use Rattle.js_model.specs.declared.consumer.Pending.{Pending}
use Rattle.js_model.specs.declared.consumer.Pull.{Pull}
use Rattle.js_model.specs.Advance.{beaten, consumer_at, is_over, is_spent, pull_comes}
use Rattle.js_model.specs.Deliver.{candidates, due_messages, is_due, is_listened, may_wait, next_message, or_next}
use Rattle.js_model.specs.Lists.{Between}
use Rattle.js_model.specs.Ready.{is_ready, is_ready_with}
use Rattle.js_model.specs.Streams.{at_limit, below_limit, is_push, is_unacknowledged, seqs, takes}
use Rattle.js_model.proofs.Named.{none_some, some_is}
use Rattle.stream_view.specs.Heads.{MessageHead, head_of}
use Rattle.stream_view.specs.Order.{IsInOrder}
use Rattle.consumer_need.specs.Stored.{HoldsStored}
use Rattle.consumer_state.specs.Before.{current_of, has_room, is_again, is_at, stays, stored_picks}
use Rattle.consumer_state.specs.Delivering.{IsReady}
use Rattle.consumer_state.specs.Offering.{is_asked, IsOffer}
use Rattle.consumer_state.proofs.Filters.{any_map, filter_none}
use Rattle.consumer_state.proofs.Offers.{any_no_wait, before_last, none_at_last, ready_is, some_offer, take_found, take_none}

-- ---- lists

pub some_left : {X : Type 0} (t : X → Bool) (xs : List X) → not (is_empty (filter t xs)) ≡ list_any t xs
some_left t [] = refl
some_left {X} t (x ∷ xs) = go (t x) (some_left t xs)
  where
    go : (b : Bool) → not (is_empty (filter t xs)) ≡ list_any t xs → not (is_empty (cond b (x ∷ filter t xs) (filter t xs))) ≡ (b || list_any t xs)
    go true k = refl
    go false k = k

any_kept : {X : Type 0} (t u : X → Bool) (xs : List X) → list_any u (filter t xs) ≡ list_any (λ x. t x && u x) xs
any_kept t u [] = refl
any_kept {X} t u (x ∷ xs) = go (t x) (any_kept t u xs)
  where
    go : (b : Bool) → list_any u (filter t xs) ≡ list_any (λ x. t x && u x) xs → list_any u (cond b (x ∷ filter t xs) (filter t xs)) ≡ ((b && u x) || list_any (λ x. t x && u x) xs)
    go true k = ap (λ b. u x || b) k
    go false k = k

twice_kept : {X : Type 0} (t u : X → Bool) (xs : List X) → filter u (filter t xs) ≡ filter (λ x. t x && u x) xs
twice_kept t u [] = refl
twice_kept {X} t u (x ∷ xs) = go (t x) (twice_kept t u xs)
  where
    go : (b : Bool) → filter u (filter t xs) ≡ filter (λ x. t x && u x) xs → filter u (cond b (x ∷ filter t xs) (filter t xs)) ≡ cond (b && u x) (x ∷ filter (λ x. t x && u x) xs) (filter (λ x. t x && u x) xs)
    go true k = ap (λ (l : List X). cond (u x) (x ∷ l) l) k
    go false k = k

any_same : {X : Type 0} (t u : X → Bool) → ((x : X) → t x ≡ u x) → (xs : List X) → list_any t xs ≡ list_any u xs
any_same t u f [] = refl
any_same t u f (x ∷ xs) = ap (λ b. b || list_any t xs) (f x) ∙ ap (λ b. u x || b) (any_same t u f xs)

or_swap : (a b c d : Bool) → ((a || b) || (c || d)) ≡ ((a || c) || (b || d))
or_swap true b c d = refl
or_swap false true true d = refl
or_swap false true false d = refl
or_swap false false c d = refl

any_or : {X : Type 0} (t u : X → Bool) (xs : List X) → list_any (λ x. t x || u x) xs ≡ (list_any t xs || list_any u xs)
any_or t u [] = refl
any_or t u (x ∷ xs) = ap (λ b. (t x || u x) || b) (any_or t u xs) ∙ or_swap (t x) (u x) (list_any t xs) (list_any u xs)

never : {X : Type 0} (xs : List X) → list_any (λ x. false) xs ≡ false
never [] = refl
never (x ∷ xs) = never xs

any_one : (n : ℕ) (b : Bool) (ms : List Message) → list_any (λ m. n == m.seq && b) ms ≡ (has (seqs ms) n && b)
any_one n b [] = refl
any_one n b (m ∷ ms) = ap (λ c. (n == m.seq && b) || c) (any_one n b ms) ∙ ap (λ c. (c && b) || (has (seqs ms) n && b)) (turned n m.seq) ∙ shared (m.seq == n) (has (seqs ms) n) b
  where
    turned : (i k : ℕ) → (i == k) ≡ (k == i)
    turned i k = go (i == k) refl
      where
        go : (c : Bool) → (i == k) ≡ c → c ≡ (k == i)
        go true e = sym (eq-eqb k i (sym (eqb-true i k e)))
        go false e = sym (ne_eqb k i (λ q. true≢false (sym (eq-eqb i k (sym q)) ∙ e)))

    shared : (x y b : Bool) → ((x && b) || (y && b)) ≡ ((x || y) && b)
    shared true true true = refl
    shared true true false = refl
    shared true false true = refl
    shared true false false = refl
    shared false y b = refl

-- some message of some entry: some entry of a message
swapped : (D : Pending → Bool) (ps : List Pending) (ms : List Message) → list_any (λ m. list_any (λ p. p.seq == m.seq && D p) ps) ms ≡ list_any (λ p. has (seqs ms) p.seq && D p) ps
swapped D [] ms = never ms
swapped D (p ∷ ps) ms =
    any_or (λ (m : Message). p.seq == m.seq && D p) (λ m. list_any (λ p. p.seq == m.seq && D p) ps) ms
    ∙ ap (λ b. b || list_any (λ m. list_any (λ p. p.seq == m.seq && D p) ps) ms) (any_one p.seq (D p) ms)
    ∙ ap (λ b. (has (seqs ms) p.seq && D p) || b) (swapped D ps ms)

-- ---- the candidates

module _ (a : Stream) (c : Consumer) where
  -- an entry that is due and may be sent again is not spent
  unspent_again : (p : Pending) → (has (seqs a.messages) p.seq && (not (is_spent a.moment c p) && (has (seqs a.messages) p.seq && is_due a.moment c p))) ≡ is_again a c p
  unspent_again p = go (has (seqs a.messages) p.seq) (nat_le p.due a.moment) c.config.max_deliver
    where
      go : (s d : Bool) (limit : Option ℕ) → (s && (not (d && at_limit p.count limit) && (s && (d && below_limit p.count limit)))) ≡ (s && (d && below_limit p.count limit))
      go false d limit = refl
      go true false limit = refl
      go true true None = refl
      go true true (Some n) = apart (nat_lt p.count n) refl
        where
          apart : (b : Bool) → nat_lt p.count n ≡ b → (not (p.count == n) && b) ≡ b
          apart true e = let l : p.count < n = ltb-true p.count n e in ap (λ z. not z && true) (ne_eqb p.count n (λ q. omega (arith, q, l)))
          apart false e = nothing (not (p.count == n))
            where
              nothing : (z : Bool) → (z && false) ≡ false
              nothing true = refl
              nothing false = refl

  due_any : list_any (λ m. list_any (λ p. p.seq == m.seq && is_due a.moment c p) (current_of a c).pending) a.messages ≡ list_any (is_again a c) c.pending
  due_any =
      swapped (is_due a.moment c) (current_of a c).pending a.messages
      ∙ any_kept (λ p. not (is_spent a.moment c p)) (λ p. has (seqs a.messages) p.seq && is_due a.moment c p) (filter (λ p. has (seqs a.messages) p.seq) c.pending)
      ∙ any_kept (λ p. has (seqs a.messages) p.seq) (λ p. not (is_spent a.moment c p) && (has (seqs a.messages) p.seq && is_due a.moment c p)) c.pending
      ∙ any_same (λ p. has (seqs a.messages) p.seq && (not (is_spent a.moment c p) && (has (seqs a.messages) p.seq && is_due a.moment c p))) (is_again a c) unspent_again c.pending

  due_some : not (is_empty (due_messages a (current_of a c))) ≡ list_any (is_again a c) c.pending
  due_some = some_left (λ m. list_any (λ p. p.seq == m.seq && is_due a.moment c p) (current_of a c).pending) a.messages ∙ due_any

  room_is : may_wait (current_of a c) ≡ has_room c (length (filter (stays a c) c.pending))
  room_is = ap (λ (ps : List Pending). is_unacknowledged c || nat_lt (length ps) (unwrap_or c.config.max_ack_pending 65536)) (twice_kept (λ p. has (seqs a.messages) p.seq) (λ p. not (is_spent a.moment c p)) c.pending)

  or_next_some : (ms : List Message) (again : Bool) → not (is_empty ms) ≡ again
      → not (is_empty (or_next ms a (current_of a c))) ≡ (again || (may_wait (current_of a c) && not (is_empty (next_message (stored_picks a c) a c))))
  or_next_some [] again e = go (may_wait (current_of a c)) ∙ ap (λ b. b || (may_wait (current_of a c) && not (is_empty (next_message (stored_picks a c) a c)))) e
    where
      next : (picks : List ℕ) → next_message picks a (current_of a c) ≡ next_message picks a c
      next [] = refl
      next (pick ∷ picks) = refl

      go : (b : Bool) → not (is_empty (cond b (next_message (stored_picks a c) a (current_of a c)) [])) ≡ (b && not (is_empty (next_message (stored_picks a c) a c)))
      go true = ap (λ (ms : List Message). not (is_empty ms)) (next (stored_picks a c))
      go false = refl
  or_next_some (m ∷ ms) again e = ap (λ b. b || (may_wait (current_of a c) && not (is_empty (next_message (stored_picks a c) a c)))) e

  pub candidates_some : c.dseq < 2 ^ 62 - 1
      → not (is_empty (candidates a (current_of a c))) ≡ (list_any (is_again a c) c.pending || (has_room c (length (filter (stays a c) c.pending)) && not (is_empty (next_message (stored_picks a c) a c))))
  candidates_some low =
      ap (λ (ms : List Message). not (is_empty ms)) (before_last a (current_of a c) low)
      ∙ or_next_some (due_messages a (current_of a c)) (list_any (is_again a c) c.pending) due_some
      ∙ ap (λ b. list_any (is_again a c) c.pending || (b && not (is_empty (next_message (stored_picks a c) a c)))) room_is

  pub candidates_none : 2 ^ 62 - 1 ≤ c.dseq → not (is_empty (candidates a (current_of a c))) ≡ false
  candidates_none l = ap (λ (ms : List Message). not (is_empty ms)) (none_at_last a (current_of a c) l)

  -- ---- the next one

  taken : ℕ → Message → Bool
  taken from m = takes c m && nat_le from m.seq

  pub taken_some : (o : Option ℕ) → o ≡ option_map (λ m. m.seq) (find (λ m. takes c m && nat_le c.cursor m.seq) a.messages) → is_some o ≡ not (is_empty (next_message [] a c))
  taken_some o e = ap is_some e ∙ go (find (λ m. takes c m && nat_le c.cursor m.seq) a.messages) refl
    where
      go : (f : Option Message) → find (λ m. takes c m && nat_le c.cursor m.seq) a.messages ≡ f → is_some (option_map (λ m. m.seq) f) ≡ not (is_empty (next_message [] a c))
      go None k = sym (ap (λ (ms : List Message). not (is_empty ms)) (take_none (λ m. takes c m && nat_le c.cursor m.seq) a.messages k))
      go (Some m) k = sym (ap (λ (ms : List Message). not (is_empty ms)) (take_found (λ m. takes c m && nat_le c.cursor m.seq) a.messages m k))

  of_pick : (pick : ℕ) (ms : List Message) → list_any (λ m. m.seq == pick) ms ≡ has (seqs ms) pick
  of_pick pick ms = sym (any_map (λ n. n == pick) (λ (m : Message). m.seq) ms)

  pub next_some : not (is_empty (next_message (stored_picks a c) a c)) ≡ (list_any (has (seqs a.messages)) c.picks || not (is_empty (next_message [] a c)))
  next_some = go (stored_picks a c) refl
    where
      empty : stored_picks a c ≡ [] → list_any (has (seqs a.messages)) c.picks ≡ false
      empty e = sym (some_left (has (seqs a.messages)) c.picks) ∙ ap (λ (ns : List ℕ). not (is_empty ns)) e

      full : (pick : ℕ) (picks : List ℕ) → stored_picks a c ≡ pick ∷ picks → list_any (has (seqs a.messages)) c.picks ≡ true
      full pick picks e = sym (some_left (has (seqs a.messages)) c.picks) ∙ ap (λ (ns : List ℕ). not (is_empty ns)) e

      there : (picks : List ℕ) (pick : ℕ) (rest : List ℕ) → filter (has (seqs a.messages)) picks ≡ pick ∷ rest → has (seqs a.messages) pick ≡ true
      there [] pick rest e = absurd (true≢false (ap (λ (ns : List ℕ). is_empty ns) e))
      there (n ∷ ns) pick rest e = at (has (seqs a.messages) n) refl e (there ns pick rest)
        where
          head : List ℕ → ℕ
          head [] = n
          head (m ∷ ms) = m

          at : (b : Bool) → has (seqs a.messages) n ≡ b → cond b (n ∷ filter (has (seqs a.messages)) ns) (filter (has (seqs a.messages)) ns) ≡ pick ∷ rest
              → (filter (has (seqs a.messages)) ns ≡ pick ∷ rest → has (seqs a.messages) pick ≡ true) → has (seqs a.messages) pick ≡ true
          at true k q more = subst (λ i. has (seqs a.messages) i ≡ true) (ap head q) k
          at false k q more = more q

      go : (picks : List ℕ) → stored_picks a c ≡ picks → not (is_empty (next_message picks a c)) ≡ (list_any (has (seqs a.messages)) c.picks || not (is_empty (next_message [] a c)))
      go [] e = sym (ap (λ b. b || not (is_empty (next_message [] a c))) (empty e))
      go (pick ∷ picks) e =
          some_left (λ m. m.seq == pick) a.messages
          ∙ of_pick pick a.messages
          ∙ there c.picks pick picks e
          ∙ sym (ap (λ b. b || not (is_empty (next_message [] a c))) (full pick picks e))

-- ---- who asks

pub running_some : (now : ℕ) (ps : List Pull) → not (is_empty (map (beaten now) (filter (λ p. not (is_over now p)) ps))) ≡ list_any (λ p. not (is_over now p)) ps
running_some now ps = go (filter (λ p. not (is_over now p)) ps) ∙ some_left (λ p. not (is_over now p)) ps
  where
    go : (ps : List Pull) → not (is_empty (map (beaten now) ps)) ≡ not (is_empty ps)
    go [] = refl
    go (p ∷ ps) = refl

pub no_wait_some : (now : ℕ) (ps : List Pull) → is_some (find (λ p. p.no_wait) (map (beaten now) (filter (λ p. not (is_over now p)) ps))) ≡ list_any (λ p. not (is_over now p) && p.no_wait) ps
no_wait_some now ps = go (filter (λ p. not (is_over now p)) ps) ∙ any_kept (λ p. not (is_over now p)) (λ p. p.no_wait) ps
  where
    same : (p : Pull) → (beaten now p).no_wait ≡ p.no_wait
    same p = at (pull_comes now p)
      where
        at : (b : Bool) → (cond b (record p { mark = now }) p).no_wait ≡ p.no_wait
        at true = refl
        at false = refl

    go : (ps : List Pull) → is_some (find (λ p. p.no_wait) (map (beaten now) ps)) ≡ list_any (λ p. p.no_wait) ps
    go [] = refl
    go (p ∷ ps) = at (beaten now p).no_wait p.no_wait (same p) (go ps)
      where
        at : (b d : Bool) → b ≡ d → is_some (find (λ p. p.no_wait) (map (beaten now) ps)) ≡ list_any (λ p. p.no_wait) ps
            → is_some (cond b (Some (beaten now p)) (find (λ p. p.no_wait) (map (beaten now) ps))) ≡ (d || list_any (λ p. p.no_wait) ps)
        at true true e k = refl
        at true false e k = absurd (true≢false e)
        at false true e k = absurd (true≢false (sym e))
        at false false e k = k

pub asked_push : (now : ℕ) (c : Consumer) (listened : Bool) → is_push c ≡ true → listened ≡ is_asked listened (consumer_at now c)
asked_push now c listened e = sym (ap (λ b. cond b listened (not (is_empty (map (beaten now) (filter (λ p. not (is_over now p)) c.waiting))))) e)

pub asked_pull : (now : ℕ) (c : Consumer) (listened : Bool) → is_push c ≡ false → list_any (λ p. not (is_over now p)) c.waiting ≡ is_asked listened (consumer_at now c)
asked_pull now c listened e = sym (running_some now c.waiting) ∙ sym (ap (λ b. cond b listened (not (is_empty (map (beaten now) (filter (λ p. not (is_over now p)) c.waiting))))) e)

-- ---- readiness

pub ready_by : (a : Stream) (c : Consumer) (listened asked no_wait some : Bool) → (is_push c ≡ true → c.waiting ≡ []) → asked ≡ is_asked listened (current_of a c)
    → no_wait ≡ is_some (find (λ p. p.no_wait) (current_of a c).waiting) → some ≡ not (is_empty (candidates a (current_of a c))) → IsReady a listened (current_of a c) (asked && (no_wait || some))
ready_by a c listened asked no_wait some unpulled e f g listening heard =
    ap (λ b. b && (no_wait || some)) e
    ∙ ap (λ b. is_asked listened (current_of a c) && (b || some)) f
    ∙ ap (λ b. is_asked listened (current_of a c) && (is_some (find (λ p. p.no_wait) (current_of a c).waiting) || b)) (g ∙ offered)
    ∙ ready_is a (current_of a c) listened offer.0 offer.1 nobody listening heard
  where
    offer : (o : Option ℕ) × IsOffer a (current_of a c) o
    offer = some_offer a (current_of a c)

    nobody : is_push c ≡ true → (current_of a c).waiting ≡ []
    nobody push = ap (λ (ps : List Pull). map (beaten a.moment) (filter (λ p. not (is_over a.moment p)) ps)) (unpulled push)

    told : (o : Option ℕ) (ms : List Message) → candidates a (current_of a c) ≡ ms → IsOffer a (current_of a c) o → not (is_empty ms) ≡ is_some o
    told None ms e k = ap (λ (l : List Message). not (is_empty l)) (sym e ∙ k)
    told (Some n) [] e k = absurd (true≢false (sym k ∙ ap (λ (l : List Message). has (seqs l) n) e))
    told (Some n) (m ∷ ms) e k = refl

    offered : not (is_empty (candidates a (current_of a c))) ≡ is_some offer.0
    offered = told offer.0 (candidates a (current_of a c)) refl offer.1

-- the same of what is read
pub ready_told : (a : Stream) (c : Consumer) (listened asked no_wait some result : Bool) → (is_push c ≡ true → c.waiting ≡ []) → asked ≡ is_asked listened (consumer_at a.moment c)
    → no_wait ≡ list_any (λ p. not (is_over a.moment p) && p.no_wait) c.waiting → some ≡ not (is_empty (candidates a (current_of a c))) → result ≡ (asked && (no_wait || some)) → IsReady a listened (current_of a c) result
ready_told a c listened asked no_wait some result unpulled e f g told listening heard =
    told ∙ ready_by a c listened asked no_wait some unpulled e (f ∙ sym (no_wait_some a.moment c.waiting)) g listening heard

-- the same of what calls told
pub ready_read : (a : Stream) (v s : Consumer) (now : ℕ) (listened asked no_wait some result : Bool) → v ≡ s → now ≡ a.moment → (is_push s ≡ true → s.waiting ≡ []) → asked ≡ is_asked listened (consumer_at now s)
    → no_wait ≡ list_any (λ p. not (is_over now p) && p.no_wait) v.waiting → some ≡ not (is_empty (candidates a (current_of a s))) → result ≡ (asked && (no_wait || some)) → IsReady a listened (current_of a s) result
ready_read a v s now listened asked no_wait some result k m unpulled e f g told =
    ready_told a s listened asked no_wait some result unpulled
    (e ∙ ap (λ n. is_asked listened (consumer_at n s)) m)
    (f ∙ ap (λ n. list_any (λ p. not (is_over n p) && p.no_wait) v.waiting) m ∙ ap (λ (x : Consumer). list_any (λ p. not (is_over a.moment p) && p.no_wait) x.waiting) k)
    g told

pub some_read : (a : Stream) (c : Consumer) → c.dseq < 2 ^ 62 - 1 → (again room next result : Bool) (count : ℕ) → again ≡ list_any (is_again a c) c.pending → count ≡ length (filter (stays a c) c.pending) → room ≡ has_room c count
    → next ≡ not (is_empty (next_message (stored_picks a c) a c)) → result ≡ (again || (room && next)) → result ≡ not (is_empty (candidates a (current_of a c)))
some_read a c low again room next result count e k r n told =
    told
    ∙ ap (λ b. b || (room && next)) e
    ∙ ap (λ b. list_any (is_again a c) c.pending || (b && next)) (r ∙ ap (has_room c) k)
    ∙ ap (λ b. list_any (is_again a c) c.pending || (has_room c (length (filter (stays a c) c.pending)) && b)) n
    ∙ sym (candidates_some a c low)

pub next_read : (a : Stream) (c : Consumer) (picked taken result : Bool) → picked ≡ list_any (has (seqs a.messages)) c.picks → taken ≡ not (is_empty (next_message [] a c)) → result ≡ (picked || taken)
    → result ≡ not (is_empty (next_message (stored_picks a c) a c))
next_read a c picked taken result e f told = told ∙ ap (λ b. b || taken) e ∙ ap (λ b. list_any (has (seqs a.messages)) c.picks || b) f ∙ sym (next_some a c)

-- ---- whether a message is stored

module _ (n high : ℕ) where
  not_below : (low : ℕ) (ms : List Message) → Between (λ m. m.seq) low high ms → n < low → has (seqs ms) n ≡ false
  not_below low [] h l = refl
  not_below low (m ∷ ms) h l = let q : low ≤ m.seq = h.0 in ap (λ b. b || has (seqs ms) n) (ne_eqb m.seq n (λ e. omega (arith, e, q, l))) ∙ not_below (m.seq + 1) ms h.1 (omega arith)

  looked : (low : ℕ) (ms : List Message) → Between (λ m. m.seq) low high ms → (o : Option Message) → find (λ m. nat_le n m.seq) ms ≡ o → list_any (λ (m : Message). m.seq == n) (option_to_list o) ≡ has (seqs ms) n
  looked low [] h None e = refl
  looked low [] h (Some m) e = absurd (none_some e)
  looked low (m ∷ ms) h o e = go (nat_le n m.seq) refl e (looked (m.seq + 1) ms h.1 o)
    where
      go : (b : Bool) → nat_le n m.seq ≡ b → cond b (Some m) (find (λ m. nat_le n m.seq) ms) ≡ o
          → (find (λ m. nat_le n m.seq) ms ≡ o → list_any (λ (m : Message). m.seq == n) (option_to_list o) ≡ has (seqs ms) n)
          → list_any (λ (m : Message). m.seq == n) (option_to_list o) ≡ ((m.seq == n) || has (seqs ms) n)
      go true k q more =
          ap (λ (o : Option Message). list_any (λ (m : Message). m.seq == n) (option_to_list o)) (sym q)
          ∙ ap (λ b. (m.seq == n) || b) (sym (not_below (m.seq + 1) ms h.1 (let l : n ≤ m.seq = leb-true n m.seq k in omega arith)))
      go false k q more = more q ∙ sym (ap (λ b. b || has (seqs ms) n) (ne_eqb m.seq n (λ e. let l : m.seq < n = leb-false n m.seq k in omega (arith, e, l))))

pub stored_some : (a : Stream) (n : ℕ) → IsInOrder a → (head : MessageHead) → Some head ≡ option_map head_of (find (λ m. nat_le n m.seq) a.messages) → (head.seq == n) ≡ has (seqs a.messages) n
stored_some a n order head e = go (find (λ m. nat_le n m.seq) a.messages) refl e
  where
    or_false : (b : Bool) → b ≡ (b || false)
    or_false true = refl
    or_false false = refl

    go : (o : Option Message) → find (λ m. nat_le n m.seq) a.messages ≡ o → Some head ≡ option_map head_of o → (head.seq == n) ≡ has (seqs a.messages) n
    go None k q = absurd (none_some (sym q))
    go (Some m) k q = ap (λ (h : MessageHead). h.seq == n) (some_is q) ∙ or_false (m.seq == n) ∙ looked n (a.last + 1) 1 a.messages order.ascends (Some m) k

pub stored_none : (a : Stream) (n : ℕ) → IsInOrder a → None ≡ option_map head_of (find (λ m. nat_le n m.seq) a.messages) → false ≡ has (seqs a.messages) n
stored_none a n order e = go (find (λ m. nat_le n m.seq) a.messages) refl e
  where
    go : (o : Option Message) → find (λ m. nat_le n m.seq) a.messages ≡ o → None ≡ option_map head_of o → false ≡ has (seqs a.messages) n
    go None k q = looked n (a.last + 1) 1 a.messages order.ascends None k
    go (Some m) k q = absurd (none_some q)

-- ---- where time changes nothing that matters

all_kept : {X : Type 0} (t : X → Bool) (xs : List X) → All (λ x. t x ≡ true) xs → filter t xs ≡ xs
all_kept t [] h = refl
all_kept {X} t (x ∷ xs) h =
    ap (λ b. cond b (x ∷ filter t xs) (filter t xs)) (All-head (λ x. t x ≡ true) x xs h) ∙ ap (λ (l : List X). x ∷ l) (all_kept t xs (All-tail (λ x. t x ≡ true) x xs h))

not_true : (b : Bool) → not b ≡ true → b ≡ false
not_true true e = sym e
not_true false e = refl

module _ (a : Stream) (c : Consumer) (given_up : List ℕ) (waiting : List Pull) (mark : ℕ) where
  abbrev changed : Consumer
  changed = record c { given_up = given_up; waiting = waiting; mark = mark }

  next_same : (picks : List ℕ) → next_message picks a changed ≡ next_message picks a c
  next_same [] = refl
  next_same (pick ∷ picks) = refl

  or_same : (ms : List Message) → or_next ms a changed ≡ or_next ms a c
  or_same [] = ap (λ (ms : List Message). cond (may_wait c) ms []) (next_same c.picks)
  or_same (m ∷ ms) = refl

  candidates_same : candidates a changed ≡ candidates a c
  unfolding candidates
  candidates_same = ap (λ (ms : List Message). cond (nat_lt c.dseq (2 ^ 62 - 1)) ms []) (or_same (due_messages a c))

module _ (a : Stream) (c : Consumer) (stored : HoldsStored a c) (at : is_at a.moment c ≡ true) where
  pending_same : (current_of a c).pending ≡ c.pending
  pending_same =
      ap (filter (λ p. not (is_spent a.moment c p))) (all_kept (λ (p : Pending). has (seqs a.messages) p.seq) c.pending stored.pending)
      ∙ filter_none (is_spent a.moment c) c.pending (not_true (list_any (is_spent a.moment c) c.pending) (and_parts _ _ at).0)

  picks_same : (current_of a c).picks ≡ c.picks
  picks_same = all_kept (has (seqs a.messages)) c.picks stored.picks

  waiting_same : filter (λ p. not (is_over a.moment p)) c.waiting ≡ c.waiting
  waiting_same = filter_none (is_over a.moment) c.waiting (not_true (list_any (is_over a.moment) c.waiting) (and_parts _ _ at).1)

  current_candidates : candidates a (current_of a c) ≡ candidates a c
  current_candidates =
      ap (λ (ps : List Pending). candidates a (record (current_of a c) { pending = ps })) pending_same
      ∙ ap (λ (ns : List ℕ). candidates a (record (current_of a c) { pending = c.pending; picks = ns })) picks_same
      ∙ candidates_same a c (current_of a c).given_up (current_of a c).waiting (current_of a c).mark

  pub ready_same : (listening : List Bytes) → is_ready a listening (current_of a c) ≡ is_ready a listening c
  ready_same listening = ap (λ (ms : List Message). is_ready_with ms listening (current_of a c)) current_candidates ∙ go (candidates a c)
    where
      none_waits : not (is_empty (current_of a c).waiting) ≡ not (is_empty c.waiting)
      none_waits = running_some a.moment c.waiting ∙ sym (some_left (λ p. not (is_over a.moment p)) c.waiting) ∙ ap (λ (ps : List Pull). not (is_empty ps)) waiting_same

      no_wait : list_any (λ p. p.no_wait) (current_of a c).waiting ≡ list_any (λ p. p.no_wait) c.waiting
      no_wait =
          sym (any_no_wait (current_of a c).waiting)
          ∙ no_wait_some a.moment c.waiting
          ∙ sym (any_kept (λ p. not (is_over a.moment p)) (λ p. p.no_wait) c.waiting)
          ∙ ap (list_any (λ p. p.no_wait)) waiting_same

      go : (ms : List Message) → is_ready_with ms listening (current_of a c) ≡ is_ready_with ms listening c
      go [] = no_wait
      go (m ∷ ms) = ap (λ b. cond (is_push c) (is_listened listening c) b) none_waits

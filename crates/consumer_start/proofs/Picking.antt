-- The last message of each subject, found in a walk through the messages.
use Rattle.std.proofs.Common.{◌≡◌, ℕ, suc, ◌+◌, ◌<◌, ◌≤◌, Bool, true, false, ◌&&◌, ◌||◌, not, cond, List, [], ◌∷◌, ◌++◌, length, refl, sym, ap, ◌∙◌, subst, arith, append-nil, append_assoc, ◌⊎◌, inl, inr}
use Rattle.std.specs.Prelude.{Some, None, nat_le, nat_lt, ◌==◌, filter, find, count_by, map, option_map, All}
use Rattle.std.specs.List.{list_any}
use Rattle.std.proofs.lemmas.Bool.{lt-ltb, le-ltb, leb-true, lt-leb, true≢false, eq-eqb, ne_eqb, or_right}
use Rattle.std.proofs.lemmas.Bool.Decides.{leb_tells}
use Rattle.std.proofs.lemmas.List.{map-append, length-append}
use Rattle.std.proofs.lemmas.List.Elements.{filter-append, All-cons, All-nil}
use Rattle.std.proofs.lemmas.List.Sums.{length-filter}
use Rattle.js_base.specs.Bytes.{Bytes, same, has}
use Rattle.js_base.proofs.Meeting.{same_is}
use Rattle.js_model.specs.declared.stream.Message.{Message}
use Rattle.js_model.specs.declared.stream.Stream.{Stream}
use Rattle.js_model.specs.declared.consumer_config.DeliverPolicy.{DeliverPolicy}
use Rattle.js_model.specs.declared.consumer_config.DeliverPolicy.TheVariants.{All as FromAll, Last as FromLast, New as FromNew, ByStartSequence, ByStartTime, LastPerSubject}
use Rattle.js_model.specs.Start.{picks_at, cursor_at}
use Rattle.js_model.specs.Lists.{Between, IsPart, keep, skip, none}
use Rattle.js_model.specs.Streams.{passes_filter, seqs}
use Rattle.js_model.specs.Trim.{newest}
use Rattle.js_model.proofs.Members.{here, found_in, in_bounds}
use Rattle.js_model.proofs.Named.{none_some, some_is, same_self}
use Rattle.js_model.proofs.Parts.{between_lower, between_map, filter_part, newest_part, part_between, part_map, part_trans, part-length}
use Rattle.js_model.proofs.Lacking.{has-part}
use Rattle.stream_view.specs.Counting.{counts_of, last_from, seqs_on}
use Rattle.stream_view.specs.Heads.{MessageHead, head_of}
use Rattle.stream_view.specs.Order.{IsInOrder}
use Rattle.consumer_start.specs.Picking.{ends_with, is_pick, picks_of, AreAllPicks}
use Rattle.consumer_start.proofs.Walks.{Ascending, IsSeen, passes_from, seen, unseen, within}

lt_of_leb : (a b : ℕ) → nat_le a b ≡ false → b < a
lt_of_leb a b e = go (leb_tells a b)
  where
    go : ((nat_le a b ≡ true) × (a ≤ b)) ⊎ ((nat_le a b ≡ false) × (b < a)) → b < a
    go (inl w) = absurd (true≢false (sym w.0 ∙ e))
    go (inr w) = w.1

-- ---- the last of some sequences

last_after : (n : ℕ) (x : ℕ) (xs : List ℕ) (high : ℕ) → Between (λ n. n) (n + 1) high (x ∷ xs) → n < last_from x xs
last_after n x [] high h = let q : n + 1 ≤ x = h.0 in omega arith
last_after n x (y ∷ ys) high h = let q : n + 1 ≤ x = h.0 in let r : x < last_from y ys = last_after x y ys high h.1 in omega arith

last_behind : (x n : ℕ) (xs ys : List ℕ) → last_from x (xs ++ n ∷ ys) ≡ last_from n ys
last_behind x n [] ys = refl
last_behind x n (y ∷ xs) ys = last_behind y n xs ys

abbrev is_nil : {X : Type 0} → List X → Bool
is_nil [] = true
is_nil (x ∷ xs) = false

ends_here : (n : ℕ) (ys : List ℕ) (high : ℕ) → Between (λ n. n) (n + 1) high ys → (last_from n ys == n) ≡ is_nil ys
ends_here n [] high h = eq-eqb n n refl
ends_here n (y ∷ ys) high h = let l : n < last_from y ys = last_after n y ys high h in ne_eqb (last_from y ys) n (omega arith)

ends_in : (xs ys : List ℕ) (n high : ℕ) → Between (λ n. n) (n + 1) high ys → ends_with (counts_of (xs ++ n ∷ ys)) n ≡ is_nil ys
ends_in [] ys n high h = ends_here n ys high h
ends_in (x ∷ xs) ys n high h = ap (λ k. k == n) (last_behind x n xs ys) ∙ ends_here n ys high h

nil_map : {X Y : Type 0} (f : X → Y) (xs : List X) → is_nil (map f xs) ≡ is_nil xs
nil_map f [] = refl
nil_map f (x ∷ xs) = refl

nil_filter : {X : Type 0} (t : X → Bool) (xs : List X) → is_nil (filter t xs) ≡ not (list_any t xs)
nil_filter t [] = refl
nil_filter t (x ∷ xs) = go (t x) (nil_filter t xs)
  where
    go : (b : Bool) → is_nil (filter t xs) ≡ not (list_any t xs) → is_nil (cond b (x ∷ filter t xs) (filter t xs)) ≡ not (b || list_any t xs)
    go true h = refl
    go false h = h

nil_length : {X : Type 0} (xs : List X) → nat_lt (length xs) 1 ≡ is_nil xs
nil_length [] = lt-ltb 0 1 (omega arith)
nil_length (x ∷ xs) = le-ltb (suc (length xs)) 1 (omega arith)

filtered_twice : (t u : Message → Bool) → ((x : Message) → t x ≡ true → u x ≡ true) → (ms : List Message) → filter t (filter u ms) ≡ filter t ms
filtered_twice t u f [] = refl
filtered_twice t u f (m ∷ ms) = go (u m) refl (t m) refl (filtered_twice t u f ms)
  where
    go : (b : Bool) → u m ≡ b → (c : Bool) → t m ≡ c → filter t (filter u ms) ≡ filter t ms → filter t (cond b (m ∷ filter u ms) (filter u ms)) ≡ cond c (m ∷ filter t ms) (filter t ms)
    go true e c k h = ap (λ b. cond b (m ∷ filter t (filter u ms)) (filter t (filter u ms))) k ∙ ap (λ l. cond c (m ∷ l) l) h
    go false e true k h = absurd (true≢false (sym (f m k) ∙ e))
    go false e false k h = h

module _ (s : Stream) (pattern : Bytes) where
  abbrev pub takes_it : Message → Bool
  takes_it m = passes_filter pattern m.subject

  abbrev pub picks_it : Message → Bool
  picks_it m = is_pick s pattern m.subject m.seq

  -- the filter matches it, and no later message has the subject
  abbrev is_newest : Message → List Message → Bool
  is_newest m later = takes_it m && not (list_any (λ x. same x.subject m.subject) later)

  abbrev newest_of : List Message → List Message
  newest_of [] = []
  newest_of (m ∷ later) = cond (is_newest m later) (m ∷ newest_of later) (newest_of later)

  -- ---- the newest of each subject are the picks

  none_after : (m : Message) → takes_it m ≡ true → (later : List Message) → nat_lt (count_by (λ x. same x.subject m.subject) (filter takes_it later)) 1 ≡ not (list_any (λ x. same x.subject m.subject) later)
  none_after m e later =
      ap (λ n. nat_lt n 1) (sym (length-filter (λ (x : Message). same x.subject m.subject) (filter takes_it later)))
      ∙ ap (λ l. nat_lt (length l) 1) (filtered_twice (λ x. same x.subject m.subject) takes_it (λ x k. ap (passes_filter pattern) (same_is x.subject m.subject k) ∙ e) later)
      ∙ nil_length (filter (λ x. same x.subject m.subject) later)
      ∙ nil_filter (λ x. same x.subject m.subject) later

  newest_is : (ms : List Message) → newest 1 (filter takes_it ms) ≡ newest_of ms
  newest_is [] = refl
  newest_is (m ∷ later) = go (takes_it m) refl (newest_is later)
    where
      go : (b : Bool) → takes_it m ≡ b → newest 1 (filter takes_it later) ≡ newest_of later
          → newest 1 (cond b (m ∷ filter takes_it later) (filter takes_it later)) ≡ cond (b && not (list_any (λ x. same x.subject m.subject) later)) (m ∷ newest_of later) (newest_of later)
      go true e h =
          ap (λ b. cond b (m ∷ newest 1 (filter takes_it later)) (newest 1 (filter takes_it later))) (none_after m e later)
          ∙ ap (λ l. cond (not (list_any (λ x. same x.subject m.subject) later)) (m ∷ l) l) h
      go false e h = h

  -- a message with those before it and after it
  ends_at : (front later : List Message) (m : Message) (high : ℕ) → Ascending (m.seq + 1) high later → s.messages ≡ front ++ m ∷ later
      → ends_with (counts_of (seqs_on s m.subject)) m.seq ≡ not (list_any (λ x. same x.subject m.subject) later)
  ends_at front later m high h e =
      let t : Message → Bool = λ x. same x.subject m.subject in
      let own : t m ≡ true = same_self m.subject in
      let split : filter t s.messages ≡ filter t front ++ m ∷ filter t later =
      ap (filter t) e ∙ filter-append t front (m ∷ later) ∙ ap (λ b. filter t front ++ cond b (m ∷ filter t later) (filter t later)) own in
      let whole : seqs (filter t s.messages) ≡ seqs (filter t front) ++ m.seq ∷ seqs (filter t later) = ap seqs split ∙ map-append (λ x. x.seq) (filter t front) (m ∷ filter t later) in
      let order : Between (λ n. n) (m.seq + 1) high (seqs (filter t later)) =
      between_map (λ n. n) (λ x. x.seq) (m.seq + 1) high (filter t later) (part_between (λ x. x.seq) (m.seq + 1) high (filter_part t later) h) in
      ap (λ l. ends_with (counts_of l) m.seq) whole
      ∙ ends_in (seqs (filter t front)) (seqs (filter t later)) m.seq high order
      ∙ nil_map (λ x. x.seq) (filter t later)
      ∙ nil_filter t later

  picked_is : (front back : List Message) (low high : ℕ) → Ascending low high back → s.messages ≡ front ++ back → filter picks_it back ≡ newest_of back
  picked_is front [] low high h e = refl
  picked_is front (m ∷ later) low high h e =
      ap (λ b. cond (takes_it m && b) (m ∷ filter picks_it later) (filter picks_it later)) (ends_at front later m high h.1 e)
      ∙ ap (λ l. cond (is_newest m later) (m ∷ l) l) (picked_is (front ++ m ∷ []) later (m.seq + 1) high h.1 (rw append_assoc e))

  pub all_picked : IsInOrder s → seqs (filter picks_it s.messages) ≡ picks_of s pattern
  all_picked order = ap seqs (picked_is [] s.messages 1 (s.last + 1) order.ascends refl ∙ sym (newest_is s.messages))

-- ---- the walk

-- below the sequence, and it passes
abbrev pub passed_below : (Message → Bool) → ℕ → Message → Bool
passed_below t n m = t m && nat_lt m.seq n

module _ (t : Message → Bool) where
  and_false : (b : Bool) → (b && false) ≡ false
  and_false true = refl
  and_false false = refl

  and_true : (b : Bool) → (b && true) ≡ b
  and_true true = refl
  and_true false = refl

  none_below_it : (n low high : ℕ) (ms : List Message) → Ascending low high ms → n ≤ low → filter (passed_below t n) ms ≡ []
  none_below_it n low high [] h l = refl
  none_below_it n low high (m ∷ ms) h l =
      let q : low ≤ m.seq = h.0 in
      ap (λ b. cond (t m && b) (m ∷ filter (passed_below t n) ms) (filter (passed_below t n) ms)) (le-ltb m.seq n (omega arith))
      ∙ ap (λ b. cond b (m ∷ filter (passed_below t n) ms) (filter (passed_below t n) ms)) (and_false (t m))
      ∙ none_below_it n (m.seq + 1) high ms h.1 (omega arith)

  -- one more message
  one_more : (seq low high : ℕ) (first : Message) (ms : List Message) → Ascending low high ms → find (λ m. nat_le seq m.seq) ms ≡ Some first
      → filter (passed_below t (first.seq + 1)) ms ≡ filter (passed_below t seq) ms ++ cond (t first) (first ∷ []) []
  one_more seq low high first [] h e = absurd (none_some e)
  one_more seq low high first (m ∷ ms) h e = go (one_more seq (m.seq + 1) high first ms h.1) (nat_le seq m.seq) refl e
    where
      with_bound : ℕ → Bool → List Message
      with_bound n b = cond (t m && b) (m ∷ filter (passed_below t n) ms) (filter (passed_below t n) ms)

      -- it is the first one
      here_it_is : seq ≤ m.seq → filter (passed_below t (m.seq + 1)) (m ∷ ms) ≡ filter (passed_below t seq) (m ∷ ms) ++ cond (t m) (m ∷ []) []
      here_it_is l =
          ap (λ b. cond (t m && b) (m ∷ filter (passed_below t (m.seq + 1)) ms) (filter (passed_below t (m.seq + 1)) ms)) (lt-ltb m.seq (m.seq + 1) (omega arith))
          ∙ ap (λ b. cond b (m ∷ filter (passed_below t (m.seq + 1)) ms) (filter (passed_below t (m.seq + 1)) ms)) (and_true (t m))
          ∙ ap (λ l. cond (t m) (m ∷ l) l) (none_below_it (m.seq + 1) (m.seq + 1) high ms h.1 (omega arith))
          ∙ sym
          (ap (λ l. l ++ cond (t m) (m ∷ []) [])
          (ap (λ b. cond (t m && b) (m ∷ filter (passed_below t seq) ms) (filter (passed_below t seq) ms)) (le-ltb m.seq seq (omega arith))
          ∙ ap (λ b. cond b (m ∷ filter (passed_below t seq) ms) (filter (passed_below t seq) ms)) (and_false (t m))
          ∙ none_below_it seq (m.seq + 1) high ms h.1 (omega arith)))

      cond_cons : (b : Bool) (x : Message) (l r : List Message) → cond b (x ∷ (l ++ r)) (l ++ r) ≡ cond b (x ∷ l) l ++ r
      cond_cons true x l r = refl
      cond_cons false x l r = refl

      go : (find (λ m. nat_le seq m.seq) ms ≡ Some first → filter (passed_below t (first.seq + 1)) ms ≡ filter (passed_below t seq) ms ++ cond (t first) (first ∷ []) []) → (b : Bool) → nat_le seq m.seq ≡ b
          → cond b (Some m) (find (λ m. nat_le seq m.seq) ms) ≡ Some first → filter (passed_below t (first.seq + 1)) (m ∷ ms) ≡ filter (passed_below t seq) (m ∷ ms) ++ cond (t first) (first ∷ []) []
      go more true l f = subst (λ (z : Message). filter (passed_below t (z.seq + 1)) (m ∷ ms) ≡ filter (passed_below t seq) (m ∷ ms) ++ cond (t z) (z ∷ []) []) (some_is f) (here_it_is (leb-true seq m.seq l))
      go more false l f =
          let after = in_bounds (λ m. m.seq) (m.seq + 1) high first ms h.1 (found_in (λ m. nat_le seq m.seq) first ms f).0 in
          let q : m.seq + 1 ≤ first.seq = after.0 in
          let k : m.seq < seq = lt_of_leb seq m.seq l in
          ap (λ b. cond (t m && b) (m ∷ filter (passed_below t (first.seq + 1)) ms) (filter (passed_below t (first.seq + 1)) ms)) (lt-ltb m.seq (first.seq + 1) (omega arith) ∙ sym (lt-ltb m.seq seq k))
          ∙ ap (λ l. cond (t m && nat_lt m.seq seq) (m ∷ l) l) (more f)
          ∙ cond_cons (t m && nat_lt m.seq seq) m (filter (passed_below t seq) ms) (cond (t first) (first ∷ []) [])

  all_below_it : (n : ℕ) (ms : List Message) → find (λ m. nat_le n m.seq) ms ≡ None → filter (passed_below t n) ms ≡ filter t ms
  all_below_it n [] e = refl
  all_below_it n (m ∷ ms) e = go (all_below_it n ms) (nat_le n m.seq) refl e
    where
      go : (find (λ m. nat_le n m.seq) ms ≡ None → filter (passed_below t n) ms ≡ filter t ms) → (b : Bool) → nat_le n m.seq ≡ b → cond b (Some m) (find (λ m. nat_le n m.seq) ms) ≡ None
          → cond (t m && nat_lt m.seq n) (m ∷ filter (passed_below t n) ms) (filter (passed_below t n) ms) ≡ cond (t m) (m ∷ filter t ms) (filter t ms)
      go more true l f = absurd (none_some (sym f))
      go more false l f =
          ap (λ b. cond (t m && b) (m ∷ filter (passed_below t n) ms) (filter (passed_below t n) ms)) (lt-ltb m.seq n (lt_of_leb n m.seq l))
          ∙ ap (λ b. cond b (m ∷ filter (passed_below t n) ms) (filter (passed_below t n) ms)) (and_true (t m))
          ∙ ap (λ l. cond (t m) (m ∷ l) l) (more f)

  none_past : (n low high : ℕ) (ms : List Message) → Ascending low high ms → high ≤ n → find (λ m. nat_le n m.seq) ms ≡ None
  none_past n low high [] h l = refl
  none_past n low high (m ∷ ms) h l =
      let below = in_bounds (λ m. m.seq) low high m (m ∷ ms) h here in
      let q : m.seq < high = below.1 in
      ap (λ b. cond b (Some m) (find (λ m. nat_le n m.seq) ms)) (lt-leb n m.seq (omega arith)) ∙ none_past n (m.seq + 1) high ms h.1 l

  -- those below are some of all that pass
  below_part : (n : ℕ) (ms : List Message) → IsPart (filter (passed_below t n) ms) (filter t ms)
  below_part n [] = none
  below_part n (m ∷ ms) = go (t m) (nat_lt m.seq n) (below_part n ms)
    where
      go : (b c : Bool) → IsPart (filter (passed_below t n) ms) (filter t ms) → IsPart (cond (b && c) (m ∷ filter (passed_below t n) ms) (filter (passed_below t n) ms)) (cond b (m ∷ filter t ms) (filter t ms))
      go true true h = keep h
      go true false h = skip h
      go false c h = h

-- ---- a list of numbers that are stored

all_has : (ms : List ℕ) (ns : List ℕ) → ((n : ℕ) → has ns n ≡ true → has ms n ≡ true) → All (λ n. has ms n ≡ true) ns
all_has ms [] f = All-nil (λ n. has ms n ≡ true)
all_has ms (n ∷ ns) f =
    All-cons (λ n. has ms n ≡ true) n ns (f n (ap (λ b. b || has ns n) (eq-eqb n n refl))) (all_has ms ns (λ k e. f k (or_right (n == k) (has ns k) e)))

pub picks_stored : (s : Stream) (pattern : Bytes) → All (λ n. has (seqs s.messages) n ≡ true) (picks_of s pattern)
picks_stored s pattern =
    all_has (seqs s.messages) (picks_of s pattern)
    (λ n. has-part n (part_map (λ m. m.seq) (part_trans (newest_part 1 (filter (λ m. passes_filter pattern m.subject) s.messages)) (filter_part (λ m. passes_filter pattern m.subject) s.messages))))

pub picks_ascend : (s : Stream) (pattern : Bytes) → IsInOrder s → Between (λ n. n) 0 (s.last + 1) (picks_of s pattern)
picks_ascend s pattern order =
    between_lower (λ n. n) 0 1 (s.last + 1) (picks_of s pattern) (omega arith)
    (between_map (λ n. n) (λ m. m.seq) 1 (s.last + 1) _
    (part_between (λ m. m.seq) 1 (s.last + 1) (part_trans (newest_part 1 (filter (λ m. passes_filter pattern m.subject) s.messages)) (filter_part (λ m. passes_filter pattern m.subject) s.messages)) order.ascends))

-- ---- the walk over a stream

-- what was picked so far
pub record IsPicked (s : Stream) (pattern : Bytes) (seq : ℕ) (picks : List ℕ) : Type 0 where
  pub so_far : picks ≡ seqs (filter (passed_below (picks_it s pattern) seq) s.messages)
  pub few : length picks ≤ 65536

module _ (s : Stream) (pattern : Bytes) (order : IsInOrder s) where
  pub at_first : IsPicked s pattern 0 []
  at_first = record { so_far = sym (ap seqs (none_below_it (picks_it s pattern) 0 1 (s.last + 1) s.messages order.ascends (omega arith))); few = omega arith }

  module _ (seq : ℕ) (picks : List ℕ) (so : IsPicked s pattern seq picks) where
    at_end : find (λ m. nat_le seq m.seq) s.messages ≡ None → AreAllPicks s pattern picks
    at_end e = record { all = so.so_far ∙ ap seqs (all_below_it (picks_it s pattern) seq s.messages e) ∙ all_picked s pattern order; few = so.few }

    pub when_unseen : None ≡ option_map head_of (find (λ m. nat_le seq m.seq) s.messages) → AreAllPicks s pattern picks
    when_unseen e = at_end (unseen (find (λ m. nat_le seq m.seq) s.messages) e)

    pub when_past : s.last < seq → AreAllPicks s pattern picks
    when_past l = at_end (none_past (picks_it s pattern) seq 1 (s.last + 1) s.messages order.ascends (omega arith))

    module _ (head : MessageHead) (found : Some head ≡ option_map head_of (find (λ m. nat_le seq m.seq) s.messages)) where
      look : IsSeen (find (λ m. nat_le seq m.seq) s.messages) head
      look = seen (find (λ m. nat_le seq m.seq) s.messages) head found

      more : filter (passed_below (picks_it s pattern) (head.seq + 1)) s.messages ≡ filter (passed_below (picks_it s pattern) seq) s.messages ++ cond (is_pick s pattern head.subject head.seq) (look.message ∷ []) []
      more =
          ap (λ h. filter (passed_below (picks_it s pattern) (h.seq + 1)) s.messages) look.head_is
          ∙ one_more (picks_it s pattern) seq 1 (s.last + 1) look.message s.messages order.ascends look.is
          ∙ sym (ap (λ h. filter (passed_below (picks_it s pattern) seq) s.messages ++ cond (is_pick s pattern h.subject h.seq) (look.message ∷ []) []) look.head_is)

      pub when_picked : is_pick s pattern head.subject head.seq ≡ true → length picks < 65536 → IsPicked s pattern (head.seq + 1) (picks ++ head.seq ∷ [])
      when_picked e l = record {
        so_far =
            ap (λ ns. ns ++ head.seq ∷ []) so.so_far
            ∙ ap (λ n. seqs (filter (passed_below (picks_it s pattern) seq) s.messages) ++ n ∷ []) (ap (λ h. h.seq) look.head_is)
            ∙ sym (map-append (λ m. m.seq) (filter (passed_below (picks_it s pattern) seq) s.messages) (look.message ∷ []))
            ∙ ap seqs (sym (more ∙ ap (λ b. filter (passed_below (picks_it s pattern) seq) s.messages ++ cond b (look.message ∷ []) []) e));
        few = rw (length-append picks (head.seq ∷ [])) (omega arith);
      }

      pub when_passed : is_pick s pattern head.subject head.seq ≡ false → IsPicked s pattern (head.seq + 1) picks
      when_passed e = record {
        so_far =
            so.so_far
            ∙ ap seqs
            (sym
            (more
            ∙ ap (λ b. filter (passed_below (picks_it s pattern) seq) s.messages ++ cond b (look.message ∷ []) []) e
            ∙ append-nil (filter (passed_below (picks_it s pattern) seq) s.messages)));
        few = so.few;
      }

      pub when_many : is_pick s pattern head.subject head.seq ≡ true → length picks ≡ 65536 → 65536 < length (picks_of s pattern)
      when_many e l =
          let ms : List Message = s.messages in
          let k : length (seqs (filter (passed_below (picks_it s pattern) (head.seq + 1)) ms)) ≡ length picks + 1 =
          ap (λ l. length (seqs l)) (more ∙ ap (λ b. filter (passed_below (picks_it s pattern) seq) ms ++ cond b (look.message ∷ []) []) e)
          ∙ ap length (map-append (λ m. m.seq) (filter (passed_below (picks_it s pattern) seq) ms) (look.message ∷ []))
          ∙ length-append (seqs (filter (passed_below (picks_it s pattern) seq) ms)) (look.message.seq ∷ [])
          ∙ ap (λ ns. length ns + 1) (sym so.so_far) in
          let q : length (seqs (filter (passed_below (picks_it s pattern) (head.seq + 1)) ms)) ≤ length (seqs (filter (picks_it s pattern) ms)) = part-length (part_map (λ m. m.seq) (below_part (picks_it s pattern) (head.seq + 1) ms)) in
          let r : length (seqs (filter (picks_it s pattern) ms)) ≡ length (picks_of s pattern) = ap length (all_picked s pattern order) in
          omega arith

pub bounds : (s : Stream) (seq : ℕ) (head : MessageHead) → IsInOrder s → Some head ≡ option_map head_of (find (λ m. nat_le seq m.seq) s.messages) → (seq ≤ head.seq) × (head.seq ≤ s.last)
bounds s seq head order found = within (λ m. true) s (option_map (λ m. m.seq) (find (passes_from (λ m. true) seq) s.messages)) seq (record { ahead = refl }) head found order

-- ---- where a consumer begins

pub starts_ascend : (policy : DeliverPolicy) (pattern : Bytes) (s : Stream) → IsInOrder s → Between (λ n. n) 0 (cursor_at policy pattern s) (picks_at policy pattern s)
starts_ascend LastPerSubject pattern s order = picks_ascend s pattern order
starts_ascend FromAll pattern s order = omega arith
starts_ascend FromLast pattern s order = omega arith
starts_ascend FromNew pattern s order = omega arith
starts_ascend (ByStartSequence n) pattern s order = omega arith
starts_ascend (ByStartTime at) pattern s order = omega arith

pub starts_stored : (policy : DeliverPolicy) (pattern : Bytes) (s : Stream) → All (λ n. has (seqs s.messages) n ≡ true) (picks_at policy pattern s)
starts_stored LastPerSubject pattern s = picks_stored s pattern
starts_stored FromAll pattern s = All-nil (λ n. has (seqs s.messages) n ≡ true)
starts_stored FromLast pattern s = All-nil (λ n. has (seqs s.messages) n ≡ true)
starts_stored FromNew pattern s = All-nil (λ n. has (seqs s.messages) n ≡ true)
starts_stored (ByStartSequence n) pattern s = All-nil (λ n. has (seqs s.messages) n ≡ true)
starts_stored (ByStartTime at) pattern s = All-nil (λ n. has (seqs s.messages) n ≡ true)

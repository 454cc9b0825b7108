-- What is counted of the subjects that a pattern matches: how many messages they have together, and which is the first of each.
use Rattle.std.proofs.Common.{◌≡◌, ℕ, ◌+◌, ◌<◌, ◌≤◌, ◌==◌, ◌&&◌, ◌||◌, ◌⊎◌, inl, inr, Bool, true, false, cond, List, [], ◌∷◌, ◌++◌, Option, Some, get_or, length, map, take, refl, sym, ap, subst, ◌∙◌, arith}
use Rattle.std.specs.Prelude.{filter, find, nat_le, count_by, sum_by}
use Rattle.std.specs.List.{flat_map, list_any, AllByRecursion}
use Rattle.std.specs.Option.{option_to_list}
use Rattle.std.specs.Ordering.{nat_cmp}
use Rattle.std.specs.BTreeMap.{is_at}
use Rattle.std.specs.BTreeSet.{BTreeSet, contains}
use Rattle.std.proofs.lemmas.Bool.{eqb-true, eq-eqb, le-leb, ne_eqb, or_cases, or_right, true≢false}
use Rattle.std.proofs.lemmas.List.{length-map, take_more}
use Rattle.std.proofs.lemmas.List.Sums.{length-filter, sum_by-append, sum_by-cons}
use Rattle.std.proofs.lemmas.Map.Keys.{IsDistinct-head, IsDistinct-tail}
use Rattle.js_base.specs.Bytes.{Bytes, same}
use Rattle.js_base.specs.Subjects.{matches, tokens}
use Rattle.js_base.proofs.Meeting.{same_is, same_self}
use Rattle.js_model.specs.declared.stream.Message.{Message}
use Rattle.js_model.specs.Lists.{Ascends, Between}
use Rattle.js_model.specs.Streams.{seqs}
use Rattle.js_model.proofs.Members.{IsIn, here, there, found_in, in_cons}
use Rattle.stream_view.specs.declared.counts.Counts.{Counts}
use Rattle.stream_view.specs.Counting.{counts_of, last_from}
use Rattle.subject_counts.specs.Sequences.{counts_matching, seqs_of, AreDistinct, Subjects}
use Rattle.stored_stream.specs.Heads.{AreHeads, IsAt, IsWith}
use Rattle.stored_stream.specs.Indexed.{on_subject, AreIndexed}
use Rattle.stored_stream.proofs.Lists.{and_true, ascends_lower, eq_flip, same_flip}
use Rattle.stored_stream.proofs.Merging.{at_number}

abbrev Entry : Type 0
Entry = Bytes × List ℕ

abbrev fits : Bytes → Bytes → Bool
fits pattern t = matches (tokens pattern) (tokens t)

-- ---- the subjects of an index, each once

-- each entry is what is found under its subject
abbrev AreFound : Subjects → List Entry → Type 0
AreFound all es = AllByRecursion (λ e. seqs_of all e.0 ≡ e.1) es

found_self : (es : List Entry) → AreDistinct es → AreFound es es
found_self [] h = tt
found_self (e ∷ es) h = (ap (λ b. cond b e.1 (seqs_of es e.0)) (same_self e.0), later es (IsDistinct-head same e.0 (map (λ x. x.0) es) h) (found_self es (IsDistinct-tail same e.0 (map (λ x. x.0) es) h)))
  where
    later : (xs : List Entry) → AllByRecursion (λ t. same e.0 t ≡ false) (map (λ x. x.0) xs) → AllByRecursion (λ x. seqs_of es x.0 ≡ x.1) xs → AllByRecursion (λ x. seqs_of (e ∷ es) x.0 ≡ x.1) xs
    later [] k l = tt
    later (x ∷ xs) k l = (ap (λ b. cond b e.1 (seqs_of es x.0)) (same_flip x.0 e.0 ∙ k.0) ∙ l.0, later xs k.1 l.1)

abbrev counts_in : Bytes → List Entry → List Counts
counts_in pattern es = counts_matching pattern es

counts_yes : (pattern : Bytes) (e : Entry) (es : List Entry) → fits pattern e.0 ≡ true → counts_in pattern (e ∷ es) ≡ option_to_list (counts_of e.1) ++ counts_in pattern es
counts_yes pattern e es h = ap (λ b. flat_map (λ x. option_to_list (counts_of x.1)) (cond b (e ∷ filter (λ x. fits pattern x.0) es) (filter (λ x. fits pattern x.0) es))) h

counts_no : (pattern : Bytes) (e : Entry) (es : List Entry) → fits pattern e.0 ≡ false → counts_in pattern (e ∷ es) ≡ counts_in pattern es
counts_no pattern e es h = ap (λ b. flat_map (λ x. option_to_list (counts_of x.1)) (cond b (e ∷ filter (λ x. fits pattern x.0) es) (filter (λ x. fits pattern x.0) es))) h

-- ---- the first of each

abbrev first_is : ℕ → Counts → Bool
first_is n c = c.first == n

-- a first sequence that is counted is that of a subject
abbrev HasFirst : Subjects → Bytes → ℕ → Type 0
HasFirst all pattern n = (t : Bytes) × (more : List ℕ) × (fits pattern t ≡ true) × (seqs_of all t ≡ n ∷ more)

first_of_some : (all : Subjects) (pattern : Bytes) (n : ℕ) (es : List Entry) → AreFound all es → list_any (first_is n) (counts_in pattern es) ≡ true → HasFirst all pattern n
first_of_some all pattern n [] h k = absurd (true≢false (sym k))
first_of_some all pattern n (e ∷ es) h k = go (fits pattern e.0) refl (λ l. first_of_some all pattern n es h.1 l)
  where
    own : (ns : List ℕ) → seqs_of all e.0 ≡ ns → fits pattern e.0 ≡ true → list_any (first_is n) (option_to_list (counts_of ns) ++ counts_in pattern es) ≡ true → (list_any (first_is n) (counts_in pattern es) ≡ true → HasFirst all pattern n)
        → HasFirst all pattern n
    own [] is f l more = more l
    own (m ∷ ns) is f l more = elim (or_cases (m == n) (list_any (first_is n) (counts_in pattern es)) l) [
      | inl this ↦ (e.0, ns, f, is ∙ ap (λ (j : ℕ). j ∷ ns) (eqb-true m n this))
      | inr others ↦ more others
    ]

    go : (b : Bool) → fits pattern e.0 ≡ b → (list_any (first_is n) (counts_in pattern es) ≡ true → HasFirst all pattern n) → HasFirst all pattern n
    go true f more = own e.1 h.0 f (sym (ap (list_any (first_is n)) (counts_yes pattern e es f)) ∙ k) more
    go false f more = more (sym (ap (list_any (first_is n)) (counts_no pattern e es f)) ∙ k)

-- the first sequence of each subject is counted
first_counted : (pattern t : Bytes) (n : ℕ) (more : List ℕ) (es : List Entry) → fits pattern t ≡ true → seqs_of es t ≡ n ∷ more → list_any (first_is n) (counts_in pattern es) ≡ true
first_counted pattern t n more [] f h = absurd cc
first_counted pattern t n more (e ∷ es) f h = go (same t e.0) refl h (λ l. first_counted pattern t n more es f l)
  where
    behind : list_any (first_is n) (counts_in pattern es) ≡ true → list_any (first_is n) (counts_in pattern (e ∷ es)) ≡ true
    behind l = step (fits pattern e.0) refl
      where
        over : (ns : List ℕ) → list_any (first_is n) (option_to_list (counts_of ns) ++ counts_in pattern es) ≡ true
        over [] = l
        over (m ∷ ns) = or_right (m == n) (list_any (first_is n) (counts_in pattern es)) l

        step : (b : Bool) → fits pattern e.0 ≡ b → list_any (first_is n) (counts_in pattern (e ∷ es)) ≡ true
        step true g = ap (list_any (first_is n)) (counts_yes pattern e es g) ∙ over e.1
        step false g = ap (list_any (first_is n)) (counts_no pattern e es g) ∙ l

    go : (b : Bool) → same t e.0 ≡ b → cond b e.1 (seqs_of es t) ≡ n ∷ more → (seqs_of es t ≡ n ∷ more → list_any (first_is n) (counts_in pattern es) ≡ true) → list_any (first_is n) (counts_in pattern (e ∷ es)) ≡ true
    go false g k later = behind (later k)
    go true g k later =
        let own : fits pattern e.0 ≡ true = ap (fits pattern) (sym (same_is t e.0 g)) ∙ f in
        ap (list_any (first_is n)) (counts_yes pattern e es own ∙ ap (λ (ns : List ℕ). option_to_list (counts_of ns) ++ counts_in pattern es) k)
        ∙ ap (λ b. b || list_any (first_is n) (counts_in pattern es)) (eq-eqb n n refl)

-- ---- the heads at the beginning

-- none is below the lower end
above : (low : ℕ) (m : Message) (ms : List Message) → Ascends low (seqs ms) → IsIn m ms → low ≤ m.seq
above low m [] h k = elim k [ ]
above low m (x ∷ ms) h here = h.0
above low m (x ∷ ms) h (there k) = let l : low ≤ x.seq = h.0 in let q : x.seq + 1 ≤ m.seq = above (x.seq + 1) m ms h.1 k in omega arith

-- a message that is there is found by its sequence
found_at : (low : ℕ) (m : Message) (ms : List Message) → Ascends low (seqs ms) → IsIn m ms → IsAt ms m.seq m
found_at low m [] h k = elim k [ ]
found_at low m (x ∷ ms) h here = ap (λ b. cond b (Some m) (find (λ y. y.seq == m.seq) ms)) (eq-eqb m.seq m.seq refl)
found_at low m (x ∷ ms) h (there k) =
    let later : x.seq + 1 ≤ m.seq = above (x.seq + 1) m ms h.1 k in
    ap (λ b. cond b (Some x) (find (λ y. y.seq == m.seq) ms)) (ne_eqb x.seq m.seq (omega arith)) ∙ found_at (x.seq + 1) m ms h.1 k

-- the first message of a subject that has this one
first_on : (low : ℕ) (t : Bytes) (m : Message) (ms : List Message) → Ascends low (seqs ms) → IsIn m ms → m.subject ≡ t
    → (first : Message) × (more : List ℕ) × (IsIn first ms) × (first.subject ≡ t) × (first.seq ≤ m.seq) × (seqs (on_subject t ms) ≡ first.seq ∷ more)
first_on low t m [] h k is = elim k [ ]
first_on low t m (x ∷ ms) h k is = go (same x.subject t) refl (in_cons k) (λ i. first_on (x.seq + 1) t m ms h.1 i is)
  where
    go : (b : Bool) → same x.subject t ≡ b → (x ≡ m) ⊎ IsIn m ms → (IsIn m ms → (first : Message) × (more : List ℕ) × (IsIn first ms) × (first.subject ≡ t) × (first.seq ≤ m.seq) × (seqs (on_subject t ms) ≡ first.seq ∷ more))
        → (first : Message) × (more : List ℕ) × (IsIn first (x ∷ ms)) × (first.subject ≡ t) × (first.seq ≤ m.seq) × (seqs (cond b (x ∷ on_subject t ms) (on_subject t ms)) ≡ first.seq ∷ more)
    go true e (inl one) more = let own : x.seq ≡ m.seq = ap (λ (y : Message). y.seq) one in (x, seqs (on_subject t ms), here, same_is x.subject t e, omega arith, refl)
    go true e (inr i) more = let later : x.seq + 1 ≤ m.seq = above (x.seq + 1) m ms h.1 i in (x, seqs (on_subject t ms), here, same_is x.subject t e, omega arith, refl)
    go false e (inl one) more = absurd (true≢false (sym (ap (λ (y : Message). same y.subject t) one ∙ ap (λ (u : Bytes). same u t) is ∙ same_self t) ∙ e))
    go false e (inr i) more = let w = more i in (w.0, w.1, there w.2, w.3, w.4, w.5)

-- the first sequence of a subject is that of a message
head_on : (t : Bytes) (n : ℕ) (more : List ℕ) (ms : List Message) → seqs (on_subject t ms) ≡ n ∷ more → (m : Message) × (IsIn m ms) × (m.subject ≡ t) × (m.seq ≡ n)
head_on t n more [] h = absurd cc
head_on t n more (x ∷ ms) h = go (same x.subject t) refl h (λ k. head_on t n more ms k)
  where
    go : (b : Bool) → same x.subject t ≡ b → seqs (cond b (x ∷ on_subject t ms) (on_subject t ms)) ≡ n ∷ more → (seqs (on_subject t ms) ≡ n ∷ more → (m : Message) × (IsIn m ms) × (m.subject ≡ t) × (m.seq ≡ n)) → (m : Message) × (IsIn m (x ∷ ms)) × (m.subject ≡ t) × (m.seq ≡ n)
    go true e k later = let is : x.seq ≡ n = cc in (x, here, same_is x.subject t e, is)
    go false e k later = let w = later k in (w.0, there w.1, w.2, w.3)

-- the first sequences of the subjects that pass a test are heads
pub first_heads : (test : Bytes → Bool) (ms : List Message) (heads : BTreeSet ℕ) → Ascends 0 (seqs ms)
    → ((n : ℕ) → contains nat_cmp heads n ≡ true → (t : Bytes) × (more : List ℕ) × (test t ≡ true) × (seqs (on_subject t ms) ≡ n ∷ more))
    → ((t : Bytes) (n : ℕ) (more : List ℕ) → test t ≡ true → seqs (on_subject t ms) ≡ n ∷ more → contains nat_cmp heads n ≡ true) → AreHeads test ms 0 heads
first_heads test ms heads ascends firsts counted = record {
  each = λ n h.
      let w = firsts n h in
      let m = head_on w.0 n w.1 ms w.3 in
      (m.0, ap (λ k. find (λ x. x.seq == k) ms) (sym m.3) ∙ found_at 0 m.0 ms ascends m.1, ap test m.2 ∙ w.2, omega arith);
  all = λ m is pass from.
      let i = (found_in (λ x. x.seq == m.seq) m ms is).0 in
      let w = first_on 0 m.subject m ms ascends i refl in
      (w.0, found_at 0 w.0 ms ascends w.2, w.3, w.4, counted m.subject w.0.seq w.1 pass w.5);
}

pub matching_heads : (subjects : Subjects) (ms : List Message) (pattern : Bytes) (heads : BTreeSet ℕ) → AreIndexed subjects ms → AreDistinct subjects
    → ((n : ℕ) → contains nat_cmp heads n ≡ list_any (λ c. c.first == n) (counts_matching pattern subjects)) → AreHeads (λ t. matches (tokens pattern) (tokens t)) ms 0 heads
matching_heads subjects ms pattern heads indexed distinct h =
    first_heads (λ t. matches (tokens pattern) (tokens t)) ms heads indexed.ascends
    (λ n k. let w = first_of_some subjects pattern n subjects (found_self subjects distinct) (sym (h n) ∙ k) in (w.0, w.1, w.2, sym (indexed.at w.0) ∙ w.3))
    (λ t n more f k. h n ∙ first_counted pattern t n more subjects f (indexed.at t ∙ k))

-- so is the first of one subject
pub one_head : (subject : Bytes) (ms : List Message) (bare heads : BTreeSet ℕ) → Ascends 0 (seqs ms) → ((n : ℕ) → contains nat_cmp bare n ≡ false) → IsWith bare (find (λ n. nat_le 0 n) (seqs (on_subject subject ms))) heads
    → AreHeads (λ t. same t subject) ms 0 heads
one_head subject ms bare heads ascends empty with' = go (seqs (on_subject subject ms)) refl with'
  where
    at_subject : (t : Bytes) → same t subject ≡ true → seqs (on_subject t ms) ≡ seqs (on_subject subject ms)
    at_subject t f = ap (λ (u : Bytes). seqs (on_subject u ms)) (same_is t subject f)

    go : (ns : List ℕ) → seqs (on_subject subject ms) ≡ ns → IsWith bare (find (λ n. nat_le 0 n) ns) heads → AreHeads (λ t. same t subject) ms 0 heads
    go [] is w = first_heads (λ t. same t subject) ms heads ascends (λ n k. absurd (true≢false (sym k ∙ w n ∙ empty n))) (λ t n more f k. absurd (no_first n more (sym k ∙ at_subject t f ∙ is)))
      where
        no_first : (n : ℕ) (more : List ℕ) → n ∷ more ≡ [] → ⊥
        no_first n more e = cc
    go (k ∷ ns) is w = first_heads (λ t. same t subject) ms heads ascends
        (λ n pass. (subject, ns, same_self subject, is ∙ ap (λ (j : ℕ). j ∷ ns) (sym (eqb-true n k (sym (has n) ∙ pass)))))
        (λ t n more f g. has n ∙ eq-eqb n k (head_same n more (sym g ∙ at_subject t f ∙ is)))
      where
        head_same : (n : ℕ) (more : List ℕ) → n ∷ more ≡ k ∷ ns → n ≡ k
        head_same n more e = cc

        one : IsWith bare (Some k) heads
        one = subst (λ (b : Bool). IsWith bare (cond b (Some k) (find (λ n. nat_le 0 n) ns)) heads) (le-leb 0 k (omega arith)) w

        itself : (b : Bool) → cond b true false ≡ b
        itself true = refl
        itself false = refl

        has : (n : ℕ) → contains nat_cmp heads n ≡ (n == k)
        has n = one n ∙ ap (λ b. cond b true (contains nat_cmp bare n)) (at_number k n) ∙ ap (λ b. cond (n == k) true b) (empty n) ∙ itself (n == k)

ascends_from : (low high : ℕ) (ms : List Message) → Between (λ m. m.seq) low high ms → Ascends low (seqs ms)
ascends_from low high [] h = tt
ascends_from low high (m ∷ ms) h = (h.0, ascends_from (m.seq + 1) high ms h.1)

pub one_head_of : (subject : Bytes) (ms : List Message) (high : ℕ) (bare heads : BTreeSet ℕ) (o : Option ℕ) → Between (λ m. m.seq) 1 high ms → bare.keys ≡ [] → o ≡ find (λ n. nat_le 0 n) (seqs (on_subject subject ms)) → IsWith bare o heads
    → AreHeads (λ t. same t subject) ms 0 heads
one_head_of subject ms high bare heads o ascends none is put =
    one_head subject ms bare heads (ascends_lower 0 1 (seqs ms) (omega arith) (ascends_from 1 high ms ascends)) (λ n. ap (list_any (is_at (nat_cmp n))) none) (subst (λ (p : Option ℕ). IsWith bare p heads) is put)

-- ---- how many

count-cons : (p : Message → Bool) (m : Message) (ms : List Message) → count_by p (m ∷ ms) ≡ cond (p m) 1 0 + count_by p ms
count-cons p m ms = sum_by-cons (λ x. cond (p x) 1 0) m ms

count_both : (a b c : Message → Bool) → ((m : Message) → cond (c m) 1 0 ≡ cond (a m) 1 0 + cond (b m) 1 0) → (ms : List Message) → count_by c ms ≡ count_by a ms + count_by b ms
count_both a b c h [] = refl
count_both a b c h (m ∷ ms) =
    let own : cond (c m) 1 0 ≡ cond (a m) 1 0 + cond (b m) 1 0 = h m in
    let more : count_by c ms ≡ count_by a ms + count_by b ms = count_both a b c h ms in
    omega (arith, own, more, count-cons a m ms, count-cons b m ms, count-cons c m ms)

count_agree : (a b : Message → Bool) (ms : List Message) → ((m : Message) → IsIn m ms → a m ≡ b m) → count_by a ms ≡ count_by b ms
count_agree a b [] h = refl
count_agree a b (m ∷ ms) h =
    count-cons a m ms ∙ ap (λ x. cond x 1 0 + count_by a ms) (h m here) ∙ ap (λ n. cond (b m) 1 0 + n) (count_agree a b ms (λ x i. h x (there i))) ∙ sym (count-cons b m ms)

-- the pattern matches the subject, and it is one of these
abbrev among : Bytes → List Entry → Message → Bool
among pattern es m = fits pattern m.subject && list_any (λ e. same m.subject e.0) es

among_none : (pattern : Bytes) (m : Message) → among pattern [] m ≡ false
among_none pattern m = go (fits pattern m.subject)
  where
    go : (b : Bool) → (b && false) ≡ false
    go true = refl
    go false = refl

-- how many are counted, an entry and those behind it
count_of-option : (ns : List ℕ) → sum_by (λ c. c.count) (option_to_list (counts_of ns)) ≡ length ns
count_of-option [] = refl
count_of-option (n ∷ ns) =
    let whole : sum_by (λ (c : Counts). c.count) (option_to_list (counts_of (n ∷ ns))) ≡ length (n ∷ ns) + 0 = sum_by-cons (λ (c : Counts). c.count) (record { count = length (n ∷ ns); first = n; last = last_from n ns }) [] in
    omega arith

not_among : (t : Bytes) (es : List Entry) → AllByRecursion (λ u. same t u ≡ false) (map (λ e. e.0) es) → list_any (λ e. same t e.0) es ≡ false
not_among t [] h = refl
not_among t (e ∷ es) h = ap (λ b. b || list_any (λ x. same t x.0) es) h.0 ∙ not_among t es h.1

module _ (pattern : Bytes) (ms : List Message) where
  pub counted_among : (es : List Entry) → AreDistinct es → AllByRecursion (λ e. length e.1 ≡ count_by (λ m. same m.subject e.0) ms) es → sum_by (λ c. c.count) (counts_in pattern es) ≡ count_by (among pattern es) ms
  counted_among [] d h = sym (count_none ms)
    where
      count_none : (xs : List Message) → count_by (among pattern []) xs ≡ 0
      count_none [] = refl
      count_none (x ∷ xs) = omega (arith, count-cons (among pattern []) x xs, ap {B = ℕ} (λ b. cond b 1 0) (among_none pattern x), count_none xs)
  counted_among (e ∷ es) d h =
      go (fits pattern e.0) refl (counted_among es (IsDistinct-tail same e.0 (map (λ x. x.0) es) d) h.1)
    where
      apart : list_any (λ x. same e.0 x.0) es ≡ false
      apart = not_among e.0 es (IsDistinct-head same e.0 (map (λ x. x.0) es) d)

      go : (b : Bool) → fits pattern e.0 ≡ b → sum_by (λ c. c.count) (counts_in pattern es) ≡ count_by (among pattern es) ms → sum_by (λ c. c.count) (counts_in pattern (e ∷ es)) ≡ count_by (among pattern (e ∷ es)) ms
      go false f more = ap (sum_by (λ (c : Counts). c.count)) (counts_no pattern e es f) ∙ more ∙ sym (count_agree (among pattern (e ∷ es)) (among pattern es) ms (λ m i. agree m (same m.subject e.0) refl))
        where
          agree : (m : Message) (b : Bool) → same m.subject e.0 ≡ b → (fits pattern m.subject && (b || list_any (λ x. same m.subject x.0) es)) ≡ (fits pattern m.subject && list_any (λ x. same m.subject x.0) es)
          agree m false k = refl
          agree m true k =
              let fail : fits pattern m.subject ≡ false = ap (fits pattern) (same_is m.subject e.0 k) ∙ f in
              rw fail refl
      go true f more =
          let own : length e.1 ≡ count_by (λ m. same m.subject e.0) ms = h.0 in
          ap (sum_by (λ (c : Counts). c.count)) (counts_yes pattern e es f)
          ∙ sum_by-append (λ (c : Counts). c.count) (option_to_list (counts_of e.1)) (counts_in pattern es)
          ∙ ap (λ n. n + sum_by (λ (c : Counts). c.count) (counts_in pattern es)) (count_of-option e.1 ∙ own)
          ∙ ap (λ n. count_by (λ m. same m.subject e.0) ms + n) more
          ∙ sym (count_both (λ m. same m.subject e.0) (among pattern es) (among pattern (e ∷ es)) (λ m. both m (same m.subject e.0) refl) ms)
        where
          both : (m : Message) (b : Bool) → same m.subject e.0 ≡ b → cond (fits pattern m.subject && (b || list_any (λ x. same m.subject x.0) es)) 1 0 ≡ cond b 1 0 + cond (among pattern es m) 1 0
          both m false k = omega arith
          both m true k =
              let is = same_is m.subject e.0 k in
              let pass : fits pattern m.subject ≡ true = ap (fits pattern) is ∙ f in
              let fail : list_any (λ x. same m.subject x.0) es ≡ false = ap (λ (t : Bytes). list_any (λ x. same t x.0) es) is ∙ apart in
              rw (pass, fail) refl

-- a subject with sequences is in the index
listed : (t : Bytes) (n : ℕ) (more : List ℕ) (es : List Entry) → seqs_of es t ≡ n ∷ more → list_any (λ e. same t e.0) es ≡ true
listed t n more [] h = absurd cc
listed t n more (e ∷ es) h = go (same t e.0) h (λ k. listed t n more es k)
  where
    go : (b : Bool) → cond b e.1 (seqs_of es t) ≡ n ∷ more → (seqs_of es t ≡ n ∷ more → list_any (λ x. same t x.0) es ≡ true) → (b || list_any (λ x. same t x.0) es) ≡ true
    go true k later = refl
    go false k later = later k

pub matching_total : (subjects : Subjects) (ms : List Message) (pattern : Bytes) → AreIndexed subjects ms → AreDistinct subjects
    → sum_by (λ c. c.count) (counts_matching pattern subjects) ≡ length (filter (λ m. matches (tokens pattern) (tokens m.subject)) ms)
matching_total subjects ms pattern indexed distinct =
    counted_among pattern ms subjects distinct (lengths subjects (found_self subjects distinct))
    ∙ count_agree (among pattern subjects) (λ m. fits pattern m.subject) ms (λ m i. all_listed m i)
    ∙ sym (length-filter (λ m. fits pattern m.subject) ms)
  where
    lengths : (es : List Entry) → AreFound subjects es → AllByRecursion (λ e. length e.1 ≡ count_by (λ m. same m.subject e.0) ms) es
    lengths [] h = tt
    lengths (e ∷ es) h = (
      ap length (sym h.0 ∙ indexed.at e.0) ∙ length-map (on_subject e.0 ms) (λ (x : Message). x.seq) ∙ length-filter (λ m. same m.subject e.0) ms,
      lengths es h.1,
    )

    all_listed : (m : Message) → IsIn m ms → among pattern subjects m ≡ fits pattern m.subject
    all_listed m i =
        let w = first_on 0 m.subject m ms indexed.ascends i refl in
        let pass : list_any (λ e. same m.subject e.0) subjects ≡ true = listed m.subject w.0.seq w.1 subjects (indexed.at m.subject ∙ w.5) in
        ap (λ b. fits pattern m.subject && b) pass ∙ sym (and_true (fits pattern m.subject))

-- ---- what is gathered of them, one after the other

pub bare_has : (set : BTreeSet ℕ) → set.keys ≡ [] → (n : ℕ) → contains nat_cmp set n ≡ false
bare_has set e n = ap (list_any (is_at (nat_cmp n))) e

any_push : (p : Counts → Bool) (cs : List Counts) (c : Counts) → list_any p (cs ++ c ∷ []) ≡ (p c || list_any p cs)
any_push p [] c = refl
any_push p (x ∷ cs) c = ap (λ b. p x || b) (any_push p cs c) ∙ swap (p x) (p c) (list_any p cs)
  where
    swap : (a b d : Bool) → (a || (b || d)) ≡ (b || (a || d))
    swap true true d = refl
    swap true false d = refl
    swap false true d = refl
    swap false false d = refl

-- the set has the first sequences of the first ones
abbrev pub HasFirsts : List Counts → BTreeSet ℕ → Type 0
HasFirsts cs heads = (n : ℕ) → contains nat_cmp heads n ≡ list_any (λ (c : Counts). c.first == n) cs

pub has_more : (all : List Counts) (i : ℕ) (d : Counts) (old new : BTreeSet ℕ) → i < length all → HasFirsts (take i all) old
    → ((n : ℕ) → contains nat_cmp new n ≡ cond (is_at (nat_cmp (get_or all i d).first) n) true (contains nat_cmp old n)) → HasFirsts (take (i + 1) all) new
has_more all i d old new l has put n =
    let this = get_or all i d in
    put n
    ∙ ap (λ b. cond b true (contains nat_cmp old n)) (at_number this.first n ∙ eq_flip n this.first)
    ∙ ap (λ b. cond (this.first == n) true b) (has n)
    ∙ either (this.first == n) (list_any (first_is n) (take i all))
    ∙ sym (ap (list_any (first_is n)) (take_more all i d l) ∙ any_push (first_is n) (take i all) this)
  where
    either : (b d : Bool) → cond b true d ≡ (b || d)
    either true d = refl
    either false d = refl

-- a set without a first number has none
pub none_first : (set : BTreeSet ℕ) → (0 < length set.keys → ⊥) → (n : ℕ) → contains nat_cmp set n ≡ false
none_first set bare n = go set.keys refl
  where
    go : (ks : List ℕ) → set.keys ≡ ks → contains nat_cmp set n ≡ false
    go [] e = bare_has set e n
    go (k ∷ ks) e = absurd (bare (let is : length set.keys ≡ length (k ∷ ks) = ap length e in omega arith))

-- The index follows the lists of the places.
use Rattle.std.proofs.Common.{◌≡◌, ◌≢◌, ℕ, zero, suc, ◌+◌, ◌*◌, ◌%◌, ◌^◌, ◌<◌, ◌≤◌, ◌==◌, ◌||◌, ◌⊎◌, not, Bool, true, false, cond, List, [], ◌∷◌, ◌++◌, length, filter, get_or, Some, refl, sym, ap, subst, ◌∙◌, inl, inr, arith, eq-eqb}
use Rattle.std.proofs.Math.ListN.{set}
use Rattle.std.proofs.lemmas.Bool.{ne_eqb, eqb-true}
use Rattle.std.proofs.lemmas.Bool.Decides.{eqb_tells}
use Rattle.std.proofs.lemmas.List.Elements.{filter-append}
use Rattle.js_base.specs.Bytes.{Bytes, has}
use Rattle.route_index.specs.declared.sub.Sub.{Sub}
use Rattle.route_index.specs.Subs.{IsAbove}
use Rattle.catalog.specs.declared.listing.Listing.{Listing}
use Rattle.catalog.specs.declared.entry.Listed.{Listed}
use Rattle.catalog.specs.declared.entry.Entry.{Entry}
use Rattle.catalog.specs.Numbers.{numbers, numbered, is_of, subs_of_place, without_numbers, IsEarlier, IsPut}
use Rattle.catalog.specs.Entries.{lists_of, lists_at, subs_of_lists, without_lists, HaveRoom, LeavesList}
use Rattle.catalog.specs.Holding.{ArePlaced, ListsPlaces}
use Rattle.catalog.proofs.Numbering.{AreOutside, after_outside, before_outside, inside, outside_stays, inside_goes, without_append, above_put}

-- ---- the lists at a number

pub lists_set_same : (es : List Entry) (i : ℕ) (new : Entry) → i < length es → lists_at (set es i new) i ≡ lists_of new
lists_set_same [] i new within = absurd (omega (arith, within))
lists_set_same (e ∷ es) zero new within = refl
lists_set_same (e ∷ es) (suc i) new within = lists_set_same es i new (omega (arith, within))

pub lists_set_other : (es : List Entry) (i n : ℕ) (new : Entry) → n ≢ i → lists_at (set es i new) n ≡ lists_at es n
lists_set_other [] i n new ne = refl
lists_set_other (e ∷ es) zero zero new ne = absurd (ne refl)
lists_set_other (e ∷ es) zero (suc n) new ne = refl
lists_set_other (e ∷ es) (suc i) zero new ne = refl
lists_set_other (e ∷ es) (suc i) (suc n) new ne = lists_set_other es i n new (λ same. ne (ap suc same))

pub lists_get : (es : List Entry) (i : ℕ) (e : Entry) → i < length es → e ≡ get_or es i e → lists_at es i ≡ lists_of e
lists_get [] i e within is = absurd (omega (arith, within))
lists_get (x ∷ es) zero e within is = ap lists_of (sym is)
lists_get (x ∷ es) (suc i) e within is = lists_get es i e (omega (arith, within)) is

pub lists_end : (es : List Entry) (e : Entry) (n : ℕ) → lists_of e ≡ [] → lists_at (es ++ e ∷ []) n ≡ lists_at es n
lists_end [] e zero h = h
lists_end [] e (suc n) h = refl
lists_end (x ∷ es) e zero h = refl
lists_end (x ∷ es) e (suc n) h = lists_end es e n h

-- ---- numbers of a place

-- a number of the next round is one of the same place
next_round : (f n : ℕ) → f % 32 ≡ n → (f + 32) % 32 ≡ n
next_round f n h = omega (arith, h)

pub own_numbers : (n f : ℕ) (xs : List Bytes) → f % 32 ≡ n → subs_of_place n (numbered f xs) ≡ numbered f xs
own_numbers n f [] h = refl
own_numbers n f (x ∷ xs) h =
    ap (λ b. cond b (record { id = f; pattern = x } ∷ subs_of_place n (numbered (f + 32) xs)) (subs_of_place n (numbered (f + 32) xs))) (eq-eqb (f % 32) n h)
    ∙ ap (λ (more : List Sub). record { id = f; pattern = x } ∷ more) (own_numbers n (f + 32) xs (next_round f n h))

pub other_numbers : (n k f : ℕ) (xs : List Bytes) → f % 32 ≡ k → n ≢ k → subs_of_place n (numbered f xs) ≡ []
other_numbers n k f [] h ne = refl
other_numbers n k f (x ∷ xs) h ne =
    ap (λ b. cond b (record { id = f; pattern = x } ∷ subs_of_place n (numbered (f + 32) xs)) (subs_of_place n (numbered (f + 32) xs))) (ne_eqb (f % 32) n (λ e. ne (sym e ∙ h)))
    ∙ other_numbers n k (f + 32) xs (next_round f k h) ne

not_of : (n k f c i : ℕ) → f % 32 ≡ k → n ≢ k → (i % 32 == n) ≡ true → has (numbers f c) i ≡ false
not_of n k f zero i h ne e = refl
not_of n k f (suc c) i h ne e =
    ap (λ b. b || has (numbers (f + 32) c) i) (ne_eqb f i (λ same. ne (sym (eqb-true (i % 32) n e) ∙ ap (λ m. m % 32) (sym same) ∙ h))) ∙ not_of n k (f + 32) c i (next_round f k h) ne e

-- ---- what the index keeps of a place

-- filters change places
both_filters : (s t : Sub → Bool) (xs : List Sub) → filter s (filter t xs) ≡ filter t (filter s xs)
both_filters s t [] = refl
both_filters s t (x ∷ xs) = go (s x) (t x) refl refl (both_filters s t xs)
  where
    go : (a b : Bool) → s x ≡ a → t x ≡ b → filter s (filter t xs) ≡ filter t (filter s xs)
        → filter s (cond (t x) (x ∷ filter t xs) (filter t xs)) ≡ filter t (cond (s x) (x ∷ filter s xs) (filter s xs))
    go true true e f h =
        ap (λ b. filter s (cond b (x ∷ filter t xs) (filter t xs))) f ∙ ap (λ b. cond b (x ∷ filter s (filter t xs)) (filter s (filter t xs))) e ∙ ap (λ more. x ∷ more) h
        ∙ sym (ap (λ b. filter t (cond b (x ∷ filter s xs) (filter s xs))) e ∙ ap (λ b. cond b (x ∷ filter t (filter s xs)) (filter t (filter s xs))) f)
    go true false e f h =
        ap (λ b. filter s (cond b (x ∷ filter t xs) (filter t xs))) f ∙ h
        ∙ sym (ap (λ b. filter t (cond b (x ∷ filter s xs) (filter s xs))) e ∙ ap (λ b. cond b (x ∷ filter t (filter s xs)) (filter t (filter s xs))) f)
    go false true e f h =
        ap (λ b. filter s (cond b (x ∷ filter t xs) (filter t xs))) f ∙ ap (λ b. cond b (x ∷ filter s (filter t xs)) (filter s (filter t xs))) e ∙ h
        ∙ sym (ap (λ b. filter t (cond b (x ∷ filter s xs) (filter s xs))) e)
    go false false e f h =
        ap (λ b. filter s (cond b (x ∷ filter t xs) (filter t xs))) f ∙ h ∙ sym (ap (λ b. filter t (cond b (x ∷ filter s xs) (filter s xs))) e)

pub place_without : (n : ℕ) (ids : List ℕ) (subs : List Sub) → subs_of_place n (without_numbers ids subs) ≡ without_numbers ids (subs_of_place n subs)
place_without n ids subs = both_filters (λ sub. is_of n sub.id) (λ sub. not (has ids sub.id)) subs

others_outside : (n k f c : ℕ) (subs : List Sub) → f % 32 ≡ k → n ≢ k → AreOutside (numbers f c) (subs_of_place n subs)
others_outside n k f c [] h ne = tt
others_outside n k f c (s ∷ subs) h ne = go (is_of n s.id) refl (others_outside n k f c subs h ne)
  where
    go : (b : Bool) → is_of n s.id ≡ b → AreOutside (numbers f c) (subs_of_place n subs) → AreOutside (numbers f c) (cond b (s ∷ subs_of_place n subs) (subs_of_place n subs))
    go true e more = (not_of n k f c s.id h ne e, more)
    go false e more = more

-- other places lose nothing
pub others_stay : (n k f c : ℕ) (subs : List Sub) → f % 32 ≡ k → n ≢ k → subs_of_place n (without_numbers (numbers f c) subs) ≡ subs_of_place n subs
others_stay n k f c subs h ne = place_without n (numbers f c) subs ∙ outside_stays (numbers f c) (subs_of_place n subs) (others_outside n k f c subs h ne)

above_filter : (id : ℕ) (t : Sub → Bool) (subs : List Sub) → IsAbove id subs → IsAbove id (filter t subs)
above_filter id t [] h = tt
above_filter id t (s ∷ subs) h = go (t s) (above_filter id t subs h.1)
  where
    go : (b : Bool) → IsAbove id (filter t subs) → IsAbove id (cond b (s ∷ filter t subs) (filter t subs))
    go true more = (h.0, more)
    go false more = more

pub earlier_without : (old new : Listing) (ids : List ℕ) → IsEarlier old → new.index ≡ without_numbers ids old.index → new.rounds ≡ old.rounds → IsEarlier new
earlier_without old new ids h e f =
    let P : List Sub → Type 0 = λ subs. IsAbove (old.rounds * 32) subs in
    let Q : ℕ → Type 0 = λ r. IsAbove (r * 32) new.index in
    record {
      above = subst Q (sym f) (subst P (sym e) (above_filter (old.rounds * 32) (λ sub. not (has ids sub.id)) old.index h.above));
      few = omega (arith, h.few, f);
    }

-- ---- lists of one place

pub append_none : {X : Type 0} (xs : List X) → xs ++ [] ≡ xs
append_none [] = refl
append_none (x ∷ xs) = ap (λ more. x ∷ more) (append_none xs)

pub subs_append : (ls : List Listed) (l : Listed) → subs_of_lists (ls ++ l ∷ []) ≡ subs_of_lists ls ++ numbered l.first l.subjects
subs_append [] l = append_none (numbered l.first l.subjects)
subs_append (m ∷ ls) l = ap (λ more. numbered m.first m.subjects ++ more) (subs_append ls l) ∙ sym (assoc (numbered m.first m.subjects) (subs_of_lists ls) (numbered l.first l.subjects))
  where
    assoc : (xs ys zs : List Sub) → (xs ++ ys) ++ zs ≡ xs ++ (ys ++ zs)
    assoc [] ys zs = refl
    assoc (x ∷ xs) ys zs = ap (λ more. x ∷ more) (assoc xs ys zs)

pub placed_higher : (n low high more : ℕ) (ls : List Listed) → high ≤ more → ArePlaced n low high ls → ArePlaced n low more ls
placed_higher n low high more [] h placed = tt
placed_higher n low high more (l ∷ ls) h placed = (placed.0, placed.1, omega (arith, h, placed.2), placed_higher n (l.first + 32 * length l.subjects) high more ls h placed.3)

placed_lower : (n low less high : ℕ) (ls : List Listed) → less ≤ low → ArePlaced n low high ls → ArePlaced n less high ls
placed_lower n low less high [] h placed = tt
placed_lower n low less high (l ∷ ls) h placed = (placed.0, omega (arith, h, placed.1), placed.2, placed.3)

pub placed_append : (n low high more : ℕ) (ls : List Listed) (l : Listed) → low ≤ high → high ≤ more → ArePlaced n low high ls → l.first % 32 ≡ n → high ≤ l.first → l.first + 32 * length l.subjects ≤ more
    → ArePlaced n low more (ls ++ l ∷ [])
placed_append n low high more [] l g h placed own from to = (own, omega (arith, g, from), to, tt)
placed_append n low high more (m ∷ ls) l g h placed own from to =
    (placed.0, placed.1, omega (arith, h, placed.2), placed_append n (m.first + 32 * length m.subjects) high more ls l placed.2 h placed.3 own from to)

pub room_from : (n low high : ℕ) (ls : List Listed) → high < 2 ^ 64 → ArePlaced n low high ls → HaveRoom ls
room_from n low high [] h placed = tt
room_from n low high (l ∷ ls) h placed = (omega (arith, h, placed.2), room_from n (l.first + 32 * length l.subjects) high ls h placed.3)

-- ---- one list more

-- the lists differ at most at one place
pub record ListsDiffer (es es' : List Entry) (k : ℕ) : Type 0 where
  pub others : (n : ℕ) → n ≢ k → lists_at es' n ≡ lists_at es n

pub set_differs : (es : List Entry) (k : ℕ) (new : Entry) → ListsDiffer es (set es k new) k
set_differs es k new = record { others = λ n ne. lists_set_other es k n new ne }

round_of : (r k : ℕ) → k < 32 → (r * 32 + k) % 32 ≡ k
round_of r k h = omega (arith, h)

pub lists_put : (old new : Listing) (es es' : List Entry) (k first : ℕ) (xs : List Bytes) (l : Listed) → ListsPlaces old es → k < 32 → IsPut k xs old first new → l ≡ record { first = first; subjects = xs }
    → lists_at es' k ≡ lists_at es k ++ l ∷ [] → ListsDiffer es es' k → ListsPlaces new es'
lists_put old new es es' k first xs l lists small put is here differs = record {
  earlier = record {
    above = let P : List Sub → Type 0 = λ subs. IsAbove (new.rounds * 32) subs in
        subst P (sym put.index) (above_put (old.rounds * 32) (new.rounds * 32) first old.index xs (omega (arith, put.rounds)) (omega (arith, put.rounds, put.number, small)) lists.earlier.above);
    few = put.few;
  };
  at = λ n. ap (subs_of_place n) put.index ∙ filter-append (λ sub. is_of n sub.id) old.index (numbered first xs) ∙ ap (λ ss. ss ++ subs_of_place n (numbered first xs)) (lists.at n) ∙ subs_at n (eqb_tells n k);
  placed = λ n. placed_at n (eqb_tells n k);
}
  where
    own : first % 32 ≡ k
    own = ap (λ m. m % 32) put.number ∙ round_of old.rounds k small

    first_is : l.first ≡ first
    first_is = ap (λ (m : Listed). m.first) is

    subjects_are : l.subjects ≡ xs
    subjects_are = ap (λ (m : Listed). m.subjects) is

    subs_at : (n : ℕ) → (((n == k) ≡ true) × (n ≡ k)) ⊎ (((n == k) ≡ false) × (n ≢ k)) → subs_of_lists (lists_at es n) ++ subs_of_place n (numbered first xs) ≡ subs_of_lists (lists_at es' n)
    subs_at n (inl e) =
        ap (λ ss. subs_of_lists (lists_at es n) ++ ss) (own_numbers n first xs (own ∙ sym e.1)) ∙ ap (λ m. subs_of_lists (lists_at es m) ++ numbered first xs) e.1
        ∙ ap (λ m. subs_of_lists (lists_at es k) ++ numbered m xs) (sym first_is) ∙ ap (λ ys. subs_of_lists (lists_at es k) ++ numbered l.first ys) (sym subjects_are)
        ∙ sym (subs_append (lists_at es k) l) ∙ ap subs_of_lists (sym here) ∙ ap (λ m. subs_of_lists (lists_at es' m)) (sym e.1)
    subs_at n (inr e) =
        ap (λ ss. subs_of_lists (lists_at es n) ++ ss) (other_numbers n k first xs own e.1) ∙ append_none (subs_of_lists (lists_at es n)) ∙ ap subs_of_lists (sym (differs.others n e.1))

    size_is : length l.subjects ≡ length xs
    size_is = ap length subjects_are

    placed_at : (n : ℕ) → (((n == k) ≡ true) × (n ≡ k)) ⊎ (((n == k) ≡ false) × (n ≢ k)) → ArePlaced n 0 (new.rounds * 32 + n) (lists_at es' n)
    placed_at n (inl e) =
        let P : List Listed → Type 0 = λ ls. ArePlaced k 0 (new.rounds * 32 + k) ls in
        let Q : ℕ → Type 0 = λ m. ArePlaced m 0 (new.rounds * 32 + m) (lists_at es' m) in
        subst Q (sym e.1) (subst P (sym here)
        (placed_append k 0 (old.rounds * 32 + k) (new.rounds * 32 + k) (lists_at es k) l (omega arith) (omega (arith, put.rounds)) (lists.placed k) (ap (λ m. m % 32) first_is ∙ own)
        (omega (arith, put.number, first_is)) (omega (arith, put.number, put.rounds, first_is, size_is))))
    placed_at n (inr e) =
        let P : List Listed → Type 0 = λ ls. ArePlaced n 0 (new.rounds * 32 + n) ls in
        subst P (sym (differs.others n e.1)) (placed_higher n 0 (old.rounds * 32 + n) (new.rounds * 32 + n) (lists_at es n) (omega (arith, put.rounds)) (lists.placed n))

-- ---- the same lists

pub lists_same : (old new : Listing) (es es' : List Entry) → ListsPlaces old es → new ≡ old → ((n : ℕ) → lists_at es' n ≡ lists_at es n) → ListsPlaces new es'
lists_same old new es es' lists e same' =
    let P : Listing → Type 0 = λ x. ListsPlaces x es' in
    subst P (sym e) (record {
      earlier = lists.earlier;
      at = λ n. lists.at n ∙ ap subs_of_lists (sym (same' n));
      placed = λ n. let Q : List Listed → Type 0 = λ ls. ArePlaced n 0 (old.rounds * 32 + n) ls in subst Q (sym (same' n)) (lists.placed n);
    })

-- ---- one list less

-- what goes has numbers of the place, and the index keeps what the place's new lists are
pub record IsCut (k : ℕ) (old new : Listing) (ls ls' : List Listed) (f c : ℕ) : Type 0 where
  pub own : f % 32 ≡ k
  pub index : new.index ≡ without_numbers (numbers f c) old.index
  pub rounds : new.rounds ≡ old.rounds
  pub left : without_numbers (numbers f c) (subs_of_lists ls) ≡ subs_of_lists ls'
  pub placed : ArePlaced k 0 (old.rounds * 32 + k) ls'

pub lists_cut : (old new : Listing) (es es' : List Entry) (k f c : ℕ) → ListsPlaces old es → IsCut k old new (lists_at es k) (lists_at es' k) f c → ListsDiffer es es' k → ListsPlaces new es'
lists_cut old new es es' k f c lists cut differs = record {
  earlier = earlier_without old new (numbers f c) lists.earlier cut.index cut.rounds;
  at = λ n. ap (subs_of_place n) cut.index ∙ subs_at n (eqb_tells n k);
  placed = λ n. let P : ℕ → Type 0 = λ r. ArePlaced n 0 (r * 32 + n) (lists_at es' n) in subst P (sym cut.rounds) (placed_at n (eqb_tells n k));
}
  where
    subs_at : (n : ℕ) → (((n == k) ≡ true) × (n ≡ k)) ⊎ (((n == k) ≡ false) × (n ≢ k)) → subs_of_place n (without_numbers (numbers f c) old.index) ≡ subs_of_lists (lists_at es' n)
    subs_at n (inl e) =
        place_without n (numbers f c) old.index ∙ ap (without_numbers (numbers f c)) (lists.at n ∙ ap (λ m. subs_of_lists (lists_at es m)) e.1) ∙ cut.left ∙ ap (λ m. subs_of_lists (lists_at es' m)) (sym e.1)
    subs_at n (inr e) = others_stay n k f c old.index cut.own e.1 ∙ lists.at n ∙ ap subs_of_lists (sym (differs.others n e.1))

    placed_at : (n : ℕ) → (((n == k) ≡ true) × (n ≡ k)) ⊎ (((n == k) ≡ false) × (n ≢ k)) → ArePlaced n 0 (old.rounds * 32 + n) (lists_at es' n)
    placed_at n (inl e) = let P : ℕ → Type 0 = λ m. ArePlaced m 0 (old.rounds * 32 + m) (lists_at es' m) in subst P (sym e.1) cut.placed
    placed_at n (inr e) = let P : List Listed → Type 0 = λ ls. ArePlaced n 0 (old.rounds * 32 + n) ls in subst P (sym (differs.others n e.1)) (lists.placed n)

-- the numbers of a list
abbrev pub numbers_of : Listed → List ℕ
numbers_of l = numbers l.first (length l.subjects)

own_goes : (l : Listed) → without_numbers (numbers_of l) (numbered l.first l.subjects) ≡ []
own_goes l = inside_goes (numbers_of l) (numbered l.first l.subjects) (inside l.first (length l.subjects) l.subjects (omega arith))

two_lists : (l m : Listed) → subs_of_lists (l ∷ m ∷ []) ≡ numbered l.first l.subjects ++ numbered m.first m.subjects
two_lists l m = ap (λ ss. numbered l.first l.subjects ++ ss) (append_none (numbered m.first m.subjects))

first_goes : (l m : Listed) → l.first + 32 * length l.subjects ≤ m.first → without_numbers (numbers_of l) (subs_of_lists (l ∷ m ∷ [])) ≡ subs_of_lists (m ∷ [])
first_goes l m h =
    ap (without_numbers (numbers_of l)) (two_lists l m) ∙ without_append (numbers_of l) (numbered l.first l.subjects) (numbered m.first m.subjects)
    ∙ ap (λ ss. ss ++ without_numbers (numbers_of l) (numbered m.first m.subjects)) (own_goes l)
    ∙ outside_stays (numbers_of l) (numbered m.first m.subjects) (after_outside l.first (length l.subjects) m.first m.subjects h) ∙ sym (append_none (numbered m.first m.subjects))

second_goes : (l m : Listed) → m.first + 32 * length m.subjects ≤ l.first → without_numbers (numbers_of l) (subs_of_lists (m ∷ l ∷ [])) ≡ subs_of_lists (m ∷ [])
second_goes l m h =
    ap (without_numbers (numbers_of l)) (two_lists m l) ∙ without_append (numbers_of l) (numbered m.first m.subjects) (numbered l.first l.subjects)
    ∙ ap (λ ss. without_numbers (numbers_of l) (numbered m.first m.subjects) ++ ss) (own_goes l)
    ∙ ap (λ ss. ss ++ []) (outside_stays (numbers_of l) (numbered m.first m.subjects) (before_outside l.first (length l.subjects) m.first m.subjects h))

pub one_left : (k : ℕ) (old new : Listing) (ls ls' : List Listed) (l : Listed) → ArePlaced k 0 (old.rounds * 32 + k) ls → LeavesList ls (Some l) ls' → new.index ≡ without_numbers (numbers_of l) old.index
    → new.rounds ≡ old.rounds → IsCut k old new ls ls' l.first (length l.subjects)
one_left k old new ls ls' l placed (m, is, inl e) index rounds =
    let P : List Listed → Type 0 = λ xs. ArePlaced k 0 (old.rounds * 32 + k) xs in
    let both = subst P e placed in
    record {
      own = both.0;
      index = index;
      rounds = rounds;
      left = ap (λ xs. without_numbers (numbers_of l) (subs_of_lists xs)) e ∙ first_goes l m both.3.1 ∙ ap subs_of_lists (sym is);
      placed = subst P (sym is) (both.3.0, omega arith, both.3.2, tt);
    }
one_left k old new ls ls' l placed (m, is, inr e) index rounds =
    let P : List Listed → Type 0 = λ xs. ArePlaced k 0 (old.rounds * 32 + k) xs in
    let both = subst P e placed in
    record {
      own = both.3.0;
      index = index;
      rounds = rounds;
      left = ap (λ xs. without_numbers (numbers_of l) (subs_of_lists xs)) e ∙ second_goes l m both.3.1 ∙ ap subs_of_lists (sym is);
      placed = subst P (sym is) (both.0, both.1, both.2, tt);
    }

-- the list that goes has room in 64 bits
pub left_room : (k high : ℕ) (ls ls' : List Listed) (l : Listed) → ArePlaced k 0 high ls → high < 2 ^ 64 → LeavesList ls (Some l) ls' → l.first + 32 * length l.subjects < 2 ^ 64
left_room k high ls ls' l placed h (m, is, inl e) =
    let P : List Listed → Type 0 = λ xs. ArePlaced k 0 high xs in
    let both = subst P e placed in omega (arith, both.2, h)
left_room k high ls ls' l placed h (m, is, inr e) =
    let P : List Listed → Type 0 = λ xs. ArePlaced k 0 high xs in
    let both = subst P e placed in omega (arith, both.3.2, h)

-- ---- all lists of a place go

-- no list is left
without_none : (ls : List Listed) (subs : List Sub) → subs ≡ [] → without_lists ls subs ≡ []
without_none [] subs e = e
without_none (l ∷ ls) subs e = without_none ls (without_numbers (numbers_of l) subs) (ap (without_numbers (numbers_of l)) e)

without_lists_append : (ls : List Listed) (xs ys : List Sub) → without_lists ls (xs ++ ys) ≡ without_lists ls xs ++ without_lists ls ys
without_lists_append [] xs ys = refl
without_lists_append (l ∷ ls) xs ys = ap (without_lists ls) (without_append (numbers_of l) xs ys) ∙ without_lists_append ls (without_numbers (numbers_of l) xs) (without_numbers (numbers_of l) ys)

without_swap : (ids : List ℕ) (ls : List Listed) (subs : List Sub) → without_lists ls (without_numbers ids subs) ≡ without_numbers ids (without_lists ls subs)
without_swap ids [] subs = refl
without_swap ids (l ∷ ls) subs =
    ap (without_lists ls) (both_filters (λ sub. not (has (numbers_of l) sub.id)) (λ sub. not (has ids sub.id)) subs) ∙ without_swap ids ls (without_numbers (numbers_of l) subs)

pub all_go : (ls : List Listed) → without_lists ls (subs_of_lists ls) ≡ []
all_go [] = refl
all_go (l ∷ ls) =
    ap (without_lists ls) (without_append (numbers_of l) (numbered l.first l.subjects) (subs_of_lists ls)) ∙ without_lists_append ls (without_numbers (numbers_of l) (numbered l.first l.subjects)) (without_numbers (numbers_of l) (subs_of_lists ls))
    ∙ ap (λ ss. ss ++ without_lists ls (without_numbers (numbers_of l) (subs_of_lists ls))) (without_none ls (without_numbers (numbers_of l) (numbered l.first l.subjects)) (own_goes l))
    ∙ without_swap (numbers_of l) ls (subs_of_lists ls) ∙ ap (without_numbers (numbers_of l)) (all_go ls)

place_without_lists : (n : ℕ) (ls : List Listed) (subs : List Sub) → subs_of_place n (without_lists ls subs) ≡ without_lists ls (subs_of_place n subs)
place_without_lists n [] subs = refl
place_without_lists n (l ∷ ls) subs = place_without_lists n ls (without_numbers (numbers_of l) subs) ∙ ap (without_lists ls) (place_without n (numbers_of l) subs)

others_keep : (n k low high : ℕ) (ls : List Listed) (subs : List Sub) → ArePlaced k low high ls → n ≢ k → subs_of_place n (without_lists ls subs) ≡ subs_of_place n subs
others_keep n k low high [] subs placed ne = refl
others_keep n k low high (l ∷ ls) subs placed ne =
    others_keep n k (l.first + 32 * length l.subjects) high ls (without_numbers (numbers_of l) subs) placed.3 ne ∙ others_stay n k l.first (length l.subjects) subs placed.0 ne

earlier_lists : (id : ℕ) (ls : List Listed) (subs : List Sub) → IsAbove id subs → IsAbove id (without_lists ls subs)
earlier_lists id [] subs h = h
earlier_lists id (l ∷ ls) subs h = earlier_lists id ls (without_numbers (numbers_of l) subs) (above_filter id (λ sub. not (has (numbers_of l) sub.id)) subs h)

pub lists_gone : (old new : Listing) (es es' : List Entry) (k : ℕ) (ls : List Listed) → ListsPlaces old es → ls ≡ lists_at es k → new.index ≡ without_lists ls old.index → new.rounds ≡ old.rounds → lists_at es' k ≡ []
    → ListsDiffer es es' k → ListsPlaces new es'
lists_gone old new es es' k ls lists is index rounds here differs = record {
  earlier = let P : List Sub → Type 0 = λ subs. IsAbove (old.rounds * 32) subs in let Q : ℕ → Type 0 = λ r. IsAbove (r * 32) new.index in record {
    above = subst Q (sym rounds) (subst P (sym index) (earlier_lists (old.rounds * 32) ls old.index lists.earlier.above));
    few = omega (arith, lists.earlier.few, rounds);
  };
  at = λ n. ap (subs_of_place n) index ∙ subs_at n (eqb_tells n k);
  placed = λ n. let P : ℕ → Type 0 = λ r. ArePlaced n 0 (r * 32 + n) (lists_at es' n) in subst P (sym rounds) (placed_at n (eqb_tells n k));
}
  where
    placed : ArePlaced k 0 (old.rounds * 32 + k) ls
    placed = let P : List Listed → Type 0 = λ xs. ArePlaced k 0 (old.rounds * 32 + k) xs in subst P (sym is) (lists.placed k)

    subs_at : (n : ℕ) → (((n == k) ≡ true) × (n ≡ k)) ⊎ (((n == k) ≡ false) × (n ≢ k)) → subs_of_place n (without_lists ls old.index) ≡ subs_of_lists (lists_at es' n)
    subs_at n (inl e) =
        place_without_lists n ls old.index ∙ ap (without_lists ls) (lists.at n ∙ ap (λ m. subs_of_lists (lists_at es m)) e.1 ∙ ap subs_of_lists (sym is)) ∙ all_go ls
        ∙ ap subs_of_lists (sym here) ∙ ap (λ m. subs_of_lists (lists_at es' m)) (sym e.1)
    subs_at n (inr e) = others_keep n k 0 (old.rounds * 32 + k) ls old.index placed e.1 ∙ lists.at n ∙ ap subs_of_lists (sym (differs.others n e.1))

    placed_at : (n : ℕ) → (((n == k) ≡ true) × (n ≡ k)) ⊎ (((n == k) ≡ false) × (n ≢ k)) → ArePlaced n 0 (old.rounds * 32 + n) (lists_at es' n)
    placed_at n (inl e) =
        let P : ℕ → Type 0 = λ m. ArePlaced m 0 (old.rounds * 32 + m) (lists_at es' m) in
        let Q : List Listed → Type 0 = λ xs. ArePlaced k 0 (old.rounds * 32 + k) xs in subst P (sym e.1) (subst Q (sym here) tt)
    placed_at n (inr e) = let P : List Listed → Type 0 = λ xs. ArePlaced n 0 (old.rounds * 32 + n) xs in subst P (sym (differs.others n e.1)) (lists.placed n)

-- What the index tells of a place is what its subjects tell.
use Rattle.std.proofs.Common.{◌≡◌, ℕ, zero, suc, ◌+◌, ◌%◌, ◌==◌, ◌||◌, ◌&&◌, Bool, true, false, cond, List, [], ◌∷◌, map, filter, Option, None, Some, refl, sym, ap, ◌∙◌, inl, inr, ◌⊎◌, arith}
use Rattle.std.specs.Prelude.{option_map}
use Rattle.std.specs.List.{list_any}
use Rattle.std.proofs.lemmas.Bool.{true≢false, and_parts, and_from, eqb-true}
use Rattle.std.proofs.lemmas.List.Folds.{list_any-append}
use Rattle.js_base.specs.Bytes.{Bytes}
use Rattle.js_base.specs.Subjects.{tokens, matches, meets}
use Rattle.route_index.specs.declared.sub.Sub.{Sub}
use Rattle.route_index.specs.Subs.{id_of, matching_ids, overlapping_ids}
use Rattle.js_model.specs.Catalog.{if_used, takes_subject, first_place, place_for, list_or_none, all_subjects, meets_some, meets_used, overlaps_at}
use Rattle.catalog.specs.declared.listing.Listing.{Listing}
use Rattle.catalog.specs.declared.entry.Listed.{Listed}
use Rattle.catalog.specs.declared.entry.Stream.{Stream}
use Rattle.catalog.specs.declared.entry.Entry.{Entry}
use Rattle.catalog.specs.Numbers.{numbered, is_of, subs_of_place}
use Rattle.catalog.specs.Entries.{used_of, place_of, subjects_of, lists_at, lists_of_used, second_list, subs_of_lists, is_other, is_of_other, meets_other}
use Rattle.catalog.specs.Holding.{ListsPlaces}
use Rattle.catalog.proofs.Placing.{append_none}

-- ---- the subjects that pass a test

module _ (test : Bytes → Bool) where
  abbrev passes : Sub → Bool
  passes sub = test sub.pattern

  -- the numbers of the subjects that pass
  abbrev pub ids_of : List Sub → List ℕ
  ids_of subs = map id_of (filter (λ sub. test sub.pattern) subs)

  -- one of a place's subjects passes
  abbrev pub passes_one : List Listed → Bool
  passes_one ls = list_any (λ sub. test sub.pattern) (subs_of_lists ls)

  -- a place has a number of one that passes just where one of its subjects passes
  pub any_number : (n : ℕ) (subs : List Sub) → list_any (is_of n) (ids_of subs) ≡ list_any passes (subs_of_place n subs)
  any_number n [] = refl
  any_number n (s ∷ subs) = go (passes s) (is_of n s.id) refl refl (any_number n subs)
    where
      go : (a b : Bool) → passes s ≡ a → is_of n s.id ≡ b → list_any (is_of n) (ids_of subs) ≡ list_any passes (subs_of_place n subs)
          → list_any (is_of n) (map id_of (cond a (s ∷ filter passes subs) (filter passes subs))) ≡ list_any passes (cond b (s ∷ subs_of_place n subs) (subs_of_place n subs))
      go true true e f h = ap (λ b. b || list_any (is_of n) (ids_of subs)) f ∙ sym (ap (λ b. b || list_any passes (subs_of_place n subs)) e)
      go true false e f h = ap (λ b. b || list_any (is_of n) (ids_of subs)) f ∙ h
      go false true e f h = h ∙ sym (ap (λ b. b || list_any passes (subs_of_place n subs)) e)
      go false false e f h = h

  any_numbered : (f : ℕ) (xs : List Bytes) → list_any passes (numbered f xs) ≡ list_any test xs
  any_numbered f [] = refl
  any_numbered f (x ∷ xs) = ap (λ b. test x || b) (any_numbered (f + 32) xs)

  any_second : (o : Option Listed) → list_any passes (subs_of_lists (second_list o)) ≡ list_any test (list_or_none (option_map subjects_of o))
  any_second None = refl
  any_second (Some l) = ap (list_any passes) (append_none (numbered l.first l.subjects)) ∙ any_numbered l.first l.subjects

  pub any_used : (o : Option Stream) → list_any passes (subs_of_lists (lists_of_used o)) ≡ if_used (λ u. list_any test (all_subjects u)) (option_map used_of o)
  any_used None = refl
  any_used (Some s) =
      list_any-append passes (numbered s.current.first s.current.subjects) (subs_of_lists (second_list s.replacing))
      ∙ ap (λ b. b || list_any passes (subs_of_lists (second_list s.replacing))) (any_numbered s.current.first s.current.subjects)
      ∙ ap (λ b. list_any test s.current.subjects || b) (any_second s.replacing)
      ∙ sym (list_any-append test s.current.subjects (list_or_none (option_map subjects_of s.replacing)))

  -- the index tells so
  pub told_of : (listing : Listing) (es : List Entry) (n : ℕ) → ListsPlaces listing es → list_any (is_of n) (ids_of listing.index) ≡ passes_one (lists_at es n)
  told_of listing es n lists = any_number n listing.index ∙ ap (list_any passes) (lists.at n)

-- ---- the place that takes a subject

abbrev takes_by : Bytes → Bytes → Bool
takes_by subject pattern = matches (tokens pattern) (tokens subject)

-- the first place that has a number is the first whose stream takes the subject
found_from : (ids : List ℕ) (subject : Bytes) (es : List Entry) (n : ℕ) → ((i : ℕ) → list_any (is_of (n + i)) ids ≡ passes_one (takes_by subject) (lists_at es i))
    → first_place (λ n p. list_any (is_of n) ids) n (map place_of es) ≡ first_place (λ n p. if_used (takes_subject subject) p.used) n (map place_of es)
found_from ids subject [] n h = refl
found_from ids subject (e ∷ es) n h =
    ap (λ b. cond b (Some (record { place = n; incarnation = e.incarnation })) (first_place (λ n p. list_any (is_of n) ids) (n + 1) (map place_of es))) (here ∙ any_used (takes_by subject) e.used)
    ∙ ap (λ o. cond (if_used (takes_subject subject) (option_map used_of e.used)) (Some (record { place = n; incarnation = e.incarnation })) o) (found_from ids subject es (n + 1) next)
  where
    here : list_any (is_of n) ids ≡ passes_one (takes_by subject) (lists_of_used e.used)
    here = let at : n ≡ n + 0 = omega arith in ap (λ m. list_any (is_of m) ids) at ∙ h 0

    next : (i : ℕ) → list_any (is_of (n + 1 + i)) ids ≡ passes_one (takes_by subject) (lists_at es i)
    next i = let at : n + 1 + i ≡ n + suc i = omega arith in ap (λ m. list_any (is_of m) ids) at ∙ h (suc i)

pub found_by_numbers : (listing : Listing) (es : List Entry) (subject : Bytes) → ListsPlaces listing es
    → first_place (λ n p. list_any (is_of n) (matching_ids subject listing.index)) 0 (map place_of es) ≡ place_for subject (map place_of es)
found_by_numbers listing es subject lists = found_from (matching_ids subject listing.index) subject es 0 (λ i. start i ∙ told_of (takes_by subject) listing es i lists)
  where
    start : (i : ℕ) → list_any (is_of (0 + i)) (matching_ids subject listing.index) ≡ list_any (is_of i) (matching_ids subject listing.index)
    start i = let at : 0 + i ≡ i = omega arith in ap (λ m. list_any (is_of m) (matching_ids subject listing.index)) at

-- ---- whether a subject meets one of another place

abbrev meets_by : Bytes → Bytes → Bool
meets_by subject other = meets (tokens subject) (tokens other)

-- one of the subjects meets one of these lists
abbrev meet_lists : List Bytes → List Listed → Bool
meet_lists xs ls = list_any (λ subject. passes_one (meets_by subject) ls) xs

any_same : {X : Type 0} (f g : X → Bool) (xs : List X) → ((x : X) → f x ≡ g x) → list_any f xs ≡ list_any g xs
any_same f g [] h = refl
any_same f g (x ∷ xs) h = ap (λ b. b || list_any f xs) (h x) ∙ ap (λ b. g x || b) (any_same f g xs h)

meets_none : (xs : List Bytes) → meet_lists xs [] ≡ false
meets_none [] = refl
meets_none (x ∷ xs) = meets_none xs

meets_stream : (xs : List Bytes) (o : Option Stream) → meet_lists xs (lists_of_used o) ≡ if_used (meets_used xs) (option_map used_of o)
meets_stream xs None = meets_none xs
meets_stream xs (Some s) = any_same (λ subject. passes_one (meets_by subject) (lists_of_used (Some s))) (meets_some (all_subjects (used_of s))) xs (λ subject. any_used (meets_by subject) (Some s))

either : (a b : Bool) → (a || b) ≡ true → (a ≡ true) ⊎ (b ≡ true)
either true b h = inl refl
either false b h = inr h

or_left : (a b : Bool) → a ≡ true → (a || b) ≡ true
or_left true b h = refl
or_left false b h = absurd (true≢false (sym h))

or_right : (a b : Bool) → b ≡ true → (a || b) ≡ true
or_right true b h = refl
or_right false b h = h

-- a place that passes, and that one of the subjects meets
abbrev MeetsAt : (ℕ → Bool) → List Bytes → ℕ → List Entry → Type 0
MeetsAt test xs n es = (i : ℕ) × (test (n + i) ≡ true) × (meet_lists xs (lists_at es i) ≡ true)

meets_there : (test : ℕ → Bool) (xs : List Bytes) (n : ℕ) (es : List Entry) → overlaps_at test xs n (map place_of es) ≡ true → MeetsAt test xs n es
meets_there test xs n [] h = absurd (true≢false (sym h))
meets_there test xs n (e ∷ es) h = go (either (test n && if_used (meets_used xs) (place_of e).used) (overlaps_at test xs (n + 1) (map place_of es)) h) (λ k. meets_there test xs (n + 1) es k)
  where
    go : ((test n && if_used (meets_used xs) (place_of e).used) ≡ true) ⊎ (overlaps_at test xs (n + 1) (map place_of es) ≡ true)
        → (overlaps_at test xs (n + 1) (map place_of es) ≡ true → MeetsAt test xs (n + 1) es) → MeetsAt test xs n (e ∷ es)
    go (inl here) more =
        let parts = and_parts (test n) (if_used (meets_used xs) (place_of e).used) here in
        let at : n + 0 ≡ n = omega arith in
        (0, ap test at ∙ parts.0, meets_stream xs e.used ∙ parts.1)
    go (inr later) more =
        let found = more later in
        let at : n + suc found.0 ≡ n + 1 + found.0 = omega arith in
        (suc found.0, ap test at ∙ found.1, found.2)

meets_from : (test : ℕ → Bool) (xs : List Bytes) (n i : ℕ) (es : List Entry) → test (n + i) ≡ true → meet_lists xs (lists_at es i) ≡ true → overlaps_at test xs n (map place_of es) ≡ true
meets_from test xs n i [] h k = absurd (true≢false (sym k ∙ meets_none xs))
meets_from test xs n zero (e ∷ es) h k =
    let at : n ≡ n + 0 = omega arith in
    or_left _ (overlaps_at test xs (n + 1) (map place_of es)) (and_from (test n) (if_used (meets_used xs) (place_of e).used) (ap test at ∙ h) (sym (meets_stream xs e.used) ∙ k))
meets_from test xs n (suc i) (e ∷ es) h k =
    let at : n + 1 + i ≡ n + suc i = omega arith in
    or_right (test n && if_used (meets_used xs) (place_of e).used) _ (meets_from test xs (n + 1) i es (ap test at ∙ h) k)

module _ (own : Option ℕ) where
  -- the place of a number
  place_of_number : (ids : List ℕ) → list_any (is_of_other own) ids ≡ true → (m : ℕ) × (is_other own m ≡ true) × (list_any (is_of m) ids ≡ true)
  place_of_number [] h = absurd (true≢false (sym h))
  place_of_number (id ∷ ids) h = go (either (is_of_other own id) (list_any (is_of_other own) ids) h) (λ k. place_of_number ids k)
    where
      self : (n : ℕ) → (n == n) ≡ true
      self n = search arith

      go : (is_of_other own id ≡ true) ⊎ (list_any (is_of_other own) ids ≡ true) → (list_any (is_of_other own) ids ≡ true → (m : ℕ) × (is_other own m ≡ true) × (list_any (is_of m) ids ≡ true))
          → (m : ℕ) × (is_other own m ≡ true) × (list_any (is_of m) (id ∷ ids) ≡ true)
      go (inl here) more = (id % 32, here, or_left (is_of (id % 32) id) (list_any (is_of (id % 32)) ids) (self (id % 32)))
      go (inr later) more = let found = more later in (found.0, found.1, or_right (is_of found.0 id) (list_any (is_of found.0) ids) found.2)

  number_of_place : (m : ℕ) (ids : List ℕ) → is_other own m ≡ true → list_any (is_of m) ids ≡ true → list_any (is_of_other own) ids ≡ true
  number_of_place m [] h k = absurd (true≢false (sym k))
  number_of_place m (id ∷ ids) h k = go (either (is_of m id) (list_any (is_of m) ids) k) (λ l. number_of_place m ids h l)
    where
      go : (is_of m id ≡ true) ⊎ (list_any (is_of m) ids ≡ true) → (list_any (is_of m) ids ≡ true → list_any (is_of_other own) ids ≡ true) → list_any (is_of_other own) (id ∷ ids) ≡ true
      go (inl here) more = or_left (is_of_other own id) (list_any (is_of_other own) ids) (ap (is_other own) (eqb-true (id % 32) m here) ∙ h)
      go (inr later) more = or_right (is_of_other own id) (list_any (is_of_other own) ids) (more later)

  module _ (listing : Listing) (es : List Entry) (lists : ListsPlaces listing es) where
    abbrev told_other : Bytes → Bool
    told_other subject = meets_other own listing.index subject

    told_place : (xs : List Bytes) → list_any told_other xs ≡ true → (m : ℕ) × (is_other own m ≡ true) × (meet_lists xs (lists_at es m) ≡ true)
    told_place [] h = absurd (true≢false (sym h))
    told_place (x ∷ xs) h = go (either (told_other x) (list_any told_other xs) h) (λ k. told_place xs k)
      where
        go : (told_other x ≡ true) ⊎ (list_any told_other xs ≡ true) → (list_any told_other xs ≡ true → (m : ℕ) × (is_other own m ≡ true) × (meet_lists xs (lists_at es m) ≡ true))
            → (m : ℕ) × (is_other own m ≡ true) × (meet_lists (x ∷ xs) (lists_at es m) ≡ true)
        go (inl here) more =
            let found = place_of_number (overlapping_ids x listing.index) here in
            (found.0, found.1, or_left _ (meet_lists xs (lists_at es found.0)) (sym (told_of (meets_by x) listing es found.0 lists) ∙ found.2))
        go (inr later) more = let found = more later in (found.0, found.1, or_right (passes_one (meets_by x) (lists_at es found.0)) _ found.2)

    place_told : (m : ℕ) (xs : List Bytes) → is_other own m ≡ true → meet_lists xs (lists_at es m) ≡ true → list_any told_other xs ≡ true
    place_told m [] h k = absurd (true≢false (sym k))
    place_told m (x ∷ xs) h k = go (either (passes_one (meets_by x) (lists_at es m)) (meet_lists xs (lists_at es m)) k) (λ l. place_told m xs h l)
      where
        go : (passes_one (meets_by x) (lists_at es m) ≡ true) ⊎ (meet_lists xs (lists_at es m) ≡ true) → (meet_lists xs (lists_at es m) ≡ true → list_any told_other xs ≡ true)
            → list_any told_other (x ∷ xs) ≡ true
        go (inl here) more =
            or_left (told_other x) (list_any told_other xs) (number_of_place m (overlapping_ids x listing.index) h (told_of (meets_by x) listing es m lists ∙ here))
        go (inr later) more = or_right (told_other x) (list_any told_other xs) (more later)

    -- a subject meets one of another place just where the index tells so of one of the subjects
    pub met_by_numbers : (xs : List Bytes) → list_any (meets_other own listing.index) xs ≡ overlaps_at (is_other own) xs 0 (map place_of es)
    met_by_numbers xs = both (list_any told_other xs) (overlaps_at (is_other own) xs 0 (map place_of es)) found back
      where
        both : (a b : Bool) → (a ≡ true → b ≡ true) → (b ≡ true → a ≡ true) → a ≡ b
        both true b f g = sym (f refl)
        both false true f g = g refl
        both false false f g = refl

        found : list_any told_other xs ≡ true → overlaps_at (is_other own) xs 0 (map place_of es) ≡ true
        found h =
            let there = told_place xs h in
            let at : 0 + there.0 ≡ there.0 = omega arith in
            meets_from (is_other own) xs 0 there.0 es (ap (is_other own) at ∙ there.1) there.2

        back : overlaps_at (is_other own) xs 0 (map place_of es) ≡ true → list_any told_other xs ≡ true
        back h =
            let there = meets_there (is_other own) xs 0 es h in
            let at : there.0 ≡ 0 + there.0 = omega arith in
            place_told there.0 xs (ap (is_other own) at ∙ there.1) there.2

-- The subscriptions under their numbers and identifiers, through each change.
use Rattle.std.proofs.Common.{◌≡◌, ◌⊎◌, inl, inr, ℕ, ◌+◌, ◌<◌, ◌==◌, ◌&&◌, ◌||◌, Bool, true, false, cond, not, List, [], ◌∷◌, ◌++◌, Option, Some, None, length, get_or, take, map, refl, sym, ap, subst, ◌∙◌, arith, eq-eqb}
use Rattle.std.specs.Prelude.{filter, is_some, IfSome}
use Rattle.std.specs.Bool.{OnTrue, OnFalse}
use Rattle.std.specs.List.{AllByRecursion, list_any, filter_map, cons_option}
use Rattle.std.specs.List.Sorted.{IsStrictlySortedBy}
use Rattle.std.specs.Cmp.{nat_cmp_total, eq_by_cmp_equiv}
use Rattle.std.specs.Ordering.{nat_cmp}
use Rattle.std.specs.Map.{keys_of, values_of, lookup, remove_entry, set_value}
use Rattle.std.proofs.lemmas.Map.{lookup-remove_entry}
use Rattle.std.proofs.lemmas.Map.Keys.{IsDistinct-from_sorted}
use Rattle.std.proofs.lemmas.Bool.{eqb-true, true≢false, and_parts}
use Rattle.std.proofs.lemmas.List.{map-append, length-append, take_more}
use Rattle.std.proofs.lemmas.List.Elements.{filter-append, filter_map-append}
use Rattle.js_base.specs.Bytes.{Bytes, same}
use Rattle.js_base.proofs.Meeting.{same_is, same_self}
use Rattle.js_model.specs.Router.{Subscription, is_sub, is_match, is_in_group, limited, counted, one_more}
use Rattle.js_model.proofs.Named.{some_is, none_some}
use Rattle.route_index.specs.declared.sub.Sub.{Sub}
use Rattle.route_index.specs.Subs.{id_of, is_match as index_match, matching_ids, IsAbove, without}
use Rattle.route_core.specs.Subscriptions.{is_number, hears, is_member}
use Rattle.route_core.specs.Heard.{heard_some}
use Rattle.route_index.specs.declared.names.Names.{Names}
use Rattle.route_index.specs.Names.{number_of, count_of, KeepsNames, AddsName, DropsName}
use Rattle.route_core.specs.Table.{Numbered, at_number, indexed, is_sub_some, is_of, AreBelow, AreNamed, Holds}
use Rattle.route_core.proofs.Entries.{at, at_is, at_self, at_same, each_entry, below_added, none_above, below_removed, removed, count_removed, changed, set_is_changed, none_changed, keys-changed, values-changed, below_changed, changed_option, lookup-changed, map-changed, count-changed}

abbrev pub subs_of : Numbered → List Subscription
subs_of es = values_of es

-- the subscription under an identifier
pub record Found (es : Numbered) (n : ℕ) (sid : Bytes) (id : ℕ) : Type 0 where
  pub sub : Subscription
  pub found : at_number es id ≡ Some sub
  pub is : is_sub n sid sub ≡ true

found_sub : (es : Numbered) (n : ℕ) (sid : Bytes) (id : ℕ) (o : Option Subscription) → at_number es id ≡ o → is_sub_some n sid o ≡ true → Found es n sid id
found_sub es n sid id None e h = absurd (true≢false (sym h))
found_sub es n sid id (Some x) e h = record { sub = x; found = e; is = h }

session_is : (n : ℕ) (sid : Bytes) (x : Subscription) → is_sub n sid x ≡ true → x.session ≡ n
session_is n sid x h = eqb-true x.session n (and_parts (x.session == n) (same x.sid sid) h).0

sid_is : (n : ℕ) (sid : Bytes) (x : Subscription) → is_sub n sid x ≡ true → x.sid ≡ sid
sid_is n sid x h = same_is x.sid sid (and_parts (x.session == n) (same x.sid sid) h).1

-- they are the same name
names_alike : (m n : ℕ) (t sid : Bytes) → m ≡ n → t ≡ sid → (m == n && same t sid) ≡ true
names_alike m n t sid e f = ap (λ b. b && same t sid) (eq-eqb m n e) ∙ ap (same t) (sym f) ∙ same_self t

same_name : (m n : ℕ) (t sid : Bytes) → (m == n && same t sid) ≡ true → (m ≡ n) × (t ≡ sid)
same_name m n t sid h = let parts = and_parts (m == n) (same t sid) h in (eqb-true m n parts.0, same_is t sid parts.1)

-- its number is under the identifier
named_number : (es : Numbered) (names : Names) → AreNamed es names → (n : ℕ) (sid : Bytes) (k : ℕ) (x : Subscription) → at_number es k ≡ Some x → is_sub n sid x ≡ true → number_of names n sid ≡ Some k
named_number es names named n sid k x found h =
    ap (λ m. number_of names m sid) (sym (session_is n sid x h)) ∙ ap (number_of names x.session) (sym (sid_is n sid x h)) ∙ named k x found

pub named_there : (es : Numbered) (names : Names) → AreNamed es names → (n : ℕ) (sid : Bytes) (k : ℕ) → is_sub_some n sid (at_number es k) ≡ true → number_of names n sid ≡ Some k
named_there es names named n sid k h = go (at_number es k) refl h
  where
    go : (o : Option Subscription) → at_number es k ≡ o → is_sub_some n sid o ≡ true → number_of names n sid ≡ Some k
    go None e f = absurd (true≢false (sym f))
    go (Some x) e f = named_number es names named n sid k x e f

-- ---- lists of values

any_none : (p : Subscription → Bool) (es : Numbered) → AllByRecursion (λ e. p e.1 ≡ false) es → list_any p (subs_of es) ≡ false
any_none p [] h = refl
any_none p (e ∷ es) h = ap (λ b. b || list_any p (subs_of es)) h.0 ∙ any_none p es h.1

any_found : (p : Subscription → Bool) (id : ℕ) (x : Subscription) (es : Numbered) → lookup (at id) es ≡ Some x → p x ≡ true → list_any p (subs_of es) ≡ true
any_found p id x [] h k = absurd (none_some h)
any_found p id x (e ∷ es) h k = go (at id e.0) (p e.1) refl (λ l. any_found p id x es l k) h
  where
    go : (b c : Bool) → p e.1 ≡ c → (lookup (at id) es ≡ Some x → list_any p (subs_of es) ≡ true) → cond b (Some e.1) (lookup (at id) es) ≡ Some x → (c || list_any p (subs_of es)) ≡ true
    go true true f rest l = refl
    go true false f rest l = absurd (true≢false (sym k ∙ ap p (sym (some_is l)) ∙ f))
    go false true f rest l = refl
    go false false f rest l = rest l

any_agree : (p q : Subscription → Bool) (es : Numbered) → AllByRecursion (λ e. p e.1 ≡ q e.1) es → list_any p (subs_of es) ≡ list_any q (subs_of es)
any_agree p q [] h = refl
any_agree p q (e ∷ es) h = ap (λ b. b || list_any p (subs_of es)) h.0 ∙ ap (λ b. q e.1 || b) (any_agree p q es h.1)

keep_agree : (p q : Subscription → Bool) (es : Numbered) → AllByRecursion (λ e. p e.1 ≡ q e.1) es → filter p (subs_of es) ≡ filter q (subs_of es)
keep_agree p q [] h = refl
keep_agree p q (e ∷ es) h =
    ap (λ b. cond b (e.1 ∷ filter p (subs_of es)) (filter p (subs_of es))) h.0 ∙ ap (λ (xs : List Subscription). cond (q e.1) (e.1 ∷ xs) xs) (keep_agree p q es h.1)

pub keep_all : (p : Subscription → Bool) (xs : List Subscription) → list_any p xs ≡ false → filter (λ x. not (p x)) xs ≡ xs
keep_all p [] h = refl
keep_all p (x ∷ xs) h = go (p x) (keep_all p xs) h
  where
    go : (b : Bool) → (list_any p xs ≡ false → filter (λ y. not (p y)) xs ≡ xs) → (b || list_any p xs) ≡ false → cond (not b) (x ∷ filter (λ y. not (p y)) xs) (filter (λ y. not (p y)) xs) ≡ x ∷ xs
    go true rest k = absurd (true≢false k)
    go false rest k = ap (λ (ys : List Subscription). x ∷ ys) (rest k)

-- ---- what holds

module _ (es : Numbered) (names : Names) (index : List Sub) (next : ℕ) (holds : Holds es names index next) where
  module _ (n : ℕ) (sid : Bytes) where
    same_number : (k : ℕ) (x : Subscription) → at_number es k ≡ Some x → is_sub n sid x ≡ true → number_of names n sid ≡ Some k
    same_number k x found h = named_number es names holds.is_named n sid k x found h

    pub found_under : (id : ℕ) → number_of names n sid ≡ Some id → Found es n sid id
    found_under id was = found_sub es n sid id (at_number es id) refl (holds.names_some n sid id was)

    -- under a number that is not there, no subscription
    pub none_under : number_of names n sid ≡ None → AllByRecursion (λ e. is_sub n sid e.1 ≡ false) es
    none_under was = each_entry (λ k x. is_sub n sid x ≡ false) es holds.ordered (λ k x found. go k x found (is_sub n sid x) refl)
      where
        go : (k : ℕ) (x : Subscription) → at_number es k ≡ Some x → (b : Bool) → is_sub n sid x ≡ b → b ≡ false
        go k x found true h = absurd (none_some (sym was ∙ same_number k x found h))
        go k x found false h = refl

    -- the number picks the subscription
    pub picks : (id : ℕ) → number_of names n sid ≡ Some id → AllByRecursion (λ e. at id e.0 ≡ is_sub n sid e.1) es
    picks id was = each_entry (λ k x. at id k ≡ is_sub n sid x) es holds.ordered (λ k x found. go k x found (is_sub n sid x) refl)
      where
        other : (k : ℕ) (x : Subscription) → at_number es k ≡ Some x → is_sub n sid x ≡ false → (c : Bool) → at id k ≡ c → c ≡ false
        other k x found h true f =
            let it = found_under id was in
            let same' : x ≡ it.sub = some_is (sym found ∙ ap (at_number es) (at_same id k f) ∙ it.found) in
            absurd (true≢false (sym it.is ∙ ap (is_sub n sid) (sym same') ∙ h))
        other k x found h false f = refl

        go : (k : ℕ) (x : Subscription) → at_number es k ≡ Some x → (b : Bool) → is_sub n sid x ≡ b → at id k ≡ b
        go k x found true h = ap (at id) (some_is (sym (same_number k x found h) ∙ was)) ∙ at_self id
        go k x found false h = other k x found h (at id k) refl

    -- each subscription under the identifier is the one of the number
    only_sub : (id : ℕ) (v : Subscription) → number_of names n sid ≡ Some id → at_number es id ≡ Some v → AllByRecursion (λ e. is_sub n sid e.1 ≡ true → e.1 ≡ v) es
    only_sub id v was here = each_entry (λ k x. is_sub n sid x ≡ true → x ≡ v) es holds.ordered
        (λ k x found h. some_is (sym found ∙ ap (at_number es) (some_is (sym (same_number k x found h) ∙ was)) ∙ here))

    in_use_by : (o : Option ℕ) → number_of names n sid ≡ o → is_some o ≡ list_any (is_sub n sid) (subs_of es)
    in_use_by None was = sym (any_none (is_sub n sid) es (none_under was))
    in_use_by (Some id) was = let it = found_under id was in sym (any_found (is_sub n sid) id it.sub es it.found it.is)

    pub in_use : is_some (number_of names n sid) ≡ list_any (is_sub n sid) (subs_of es)
    in_use = in_use_by (number_of names n sid) refl

    pub free_name : list_any (is_sub n sid) (subs_of es) ≡ false → number_of names n sid ≡ None
    free_name h = go (number_of names n sid) (in_use ∙ h)
      where
        go : (o : Option ℕ) → is_some o ≡ false → o ≡ None
        go None k = refl
        go (Some id) k = absurd (true≢false k)

    -- ---- a change of the subscription under the identifier

    module _ (f : Subscription → Subscription) (fixes : (x : Subscription) → is_sub n sid x ≡ false → f x ≡ x) where
      leaves_from : (id : ℕ) (xs : Numbered) → AllByRecursion (λ e. at id e.0 ≡ is_sub n sid e.1) xs → AllByRecursion (λ e. at id e.0 ≡ false → f e.1 ≡ e.1) xs
      leaves_from id [] h = tt
      leaves_from id (e ∷ xs) h = (λ k. fixes e.1 (sym h.0 ∙ k), leaves_from id xs h.1)

      fixes_all : (xs : Numbered) → AllByRecursion (λ e. is_sub n sid e.1 ≡ false) xs → AllByRecursion (λ e. f e.1 ≡ e.1) xs
      fixes_all [] h = tt
      fixes_all (e ∷ xs) h = (fixes e.1 h.0, fixes_all xs h.1)

      pub changed_there : (id : ℕ) (v new : Subscription) (es' : Numbered) → number_of names n sid ≡ Some id → Some v ≡ at_number es id → new ≡ f v → es' ≡ set_value (at id) es new → es' ≡ changed f es
      changed_there id v new es' was here made left = left ∙ ap (set_value (at id) es) made ∙ set_is_changed f id v es holds.ordered (leaves_from id es (picks id was)) (sym here)

      pub changed_nowhere : number_of names n sid ≡ None → subs_of es ≡ map f (subs_of es)
      changed_nowhere was = ap subs_of (none_changed f es (fixes_all es (none_under was))) ∙ values-changed f es

    -- ---- spent

    module _ (q : Subscription → Bool) where
      both : Subscription → Bool
      both x = is_sub n sid x && q x

      alike_from : (v : Subscription) → q v ≡ true → (xs : Numbered) → AllByRecursion (λ e. is_sub n sid e.1 ≡ true → e.1 ≡ v) xs → AllByRecursion (λ e. (is_sub n sid e.1 && q e.1) ≡ is_sub n sid e.1) xs
      alike_from v h [] all = tt
      alike_from v h (e ∷ xs) all = (go (is_sub n sid e.1) refl, alike_from v h xs all.1)
        where
          go : (b : Bool) → is_sub n sid e.1 ≡ b → (b && q e.1) ≡ b
          go true k = ap q (all.0 k) ∙ h
          go false k = refl

      never_from : (v : Subscription) → q v ≡ false → (xs : Numbered) → AllByRecursion (λ e. is_sub n sid e.1 ≡ true → e.1 ≡ v) xs → AllByRecursion (λ e. (is_sub n sid e.1 && q e.1) ≡ false) xs
      never_from v h [] all = tt
      never_from v h (e ∷ xs) all = (go (is_sub n sid e.1) refl, never_from v h xs all.1)
        where
          go : (b : Bool) → is_sub n sid e.1 ≡ b → (b && q e.1) ≡ false
          go true k = ap q (all.0 k) ∙ h
          go false k = refl

      pub any_is : (id : ℕ) (v : Subscription) → number_of names n sid ≡ Some id → at_number es id ≡ Some v → q v ≡ list_any (λ x. is_sub n sid x && q x) (subs_of es)
      any_is id v was here = go (q v) refl
        where
          go : (b : Bool) → q v ≡ b → b ≡ list_any (λ x. is_sub n sid x && q x) (subs_of es)
          go true h =
              sym (any_agree (λ x. is_sub n sid x && q x) (is_sub n sid) es (alike_from v h es (only_sub id v was here)) ∙ sym in_use ∙ ap is_some was)
          go false h = sym (any_none (λ x. is_sub n sid x && q x) es (never_from v h es (only_sub id v was here)))

      pub any_not : number_of names n sid ≡ None → false ≡ list_any (λ x. is_sub n sid x && q x) (subs_of es)
      any_not was = sym (any_none (λ x. is_sub n sid x && q x) es (falls es (none_under was)))
        where
          falls : (xs : Numbered) → AllByRecursion (λ e. is_sub n sid e.1 ≡ false) xs → AllByRecursion (λ e. (is_sub n sid e.1 && q e.1) ≡ false) xs
          falls [] h = tt
          falls (e ∷ xs) h = (ap (λ b. b && q e.1) h.0, falls xs h.1)

      pub gone_both : list_any (λ x. is_sub n sid x && q x) (subs_of es) ≡ true → filter (λ x. not (is_sub n sid x)) (subs_of es) ≡ filter (λ x. not (is_sub n sid x && q x)) (subs_of es)
      gone_both h = go (number_of names n sid) refl
        where
          turned : (xs : Numbered) → AllByRecursion (λ e. (is_sub n sid e.1 && q e.1) ≡ is_sub n sid e.1) xs → AllByRecursion (λ e. not (is_sub n sid e.1) ≡ not (is_sub n sid e.1 && q e.1)) xs
          turned [] k = tt
          turned (e ∷ xs) k = (ap not (sym k.0), turned xs k.1)

          go : (o : Option ℕ) → number_of names n sid ≡ o → filter (λ x. not (is_sub n sid x)) (subs_of es) ≡ filter (λ x. not (is_sub n sid x && q x)) (subs_of es)
          go None was = absurd (true≢false (sym h ∙ sym (any_not was)))
          go (Some id) was =
              let it = found_under id was in
              let spent : q it.sub ≡ true = any_is id it.sub was it.found ∙ h in
              keep_agree (λ x. not (is_sub n sid x)) (λ x. not (is_sub n sid x && q x)) es (turned es (alike_from it.sub spent es (only_sub id it.sub was it.found)))

  -- ---- one less

  module _ (n : ℕ) (sid : Bytes) (id : ℕ) (was : number_of names n sid ≡ Some id) where
    abbrev it : Found es n sid id
    it = found_under n sid id was

    abbrev less : Numbered
    less = remove_entry (at id) es

    looked : (k : ℕ) → lookup (at k) less ≡ cond (at id k) None (at_number es k)
    looked k = lookup-remove_entry (eq_by_cmp_equiv nat_cmp_total) (at id) (λ x y h. ap (λ m. at m y) (sym (at_same id x h))) k es (IsDistinct-from_sorted nat_cmp (keys_of es) holds.ordered)

    looked_other : (k : ℕ) → at id k ≡ false → lookup (at k) less ≡ at_number es k
    looked_other k f = looked k ∙ ap (λ b. cond b None (at_number es k)) f

    pub list_less : subs_of less ≡ filter (λ x. not (is_sub n sid x)) (subs_of es)
    list_less = removed (λ e. e.1) (is_sub n sid) id es holds.ordered (picks n sid id was)

    -- of the session's, one less; of the others, all
    pub session_less : length (filter (is_of n) (subs_of es)) ≡ length (filter (is_of n) (subs_of less)) + 1
    session_less =
        let mine : is_of n it.sub ≡ true = (and_parts (it.sub.session == n) (same it.sub.sid sid) it.is).0 in
        count_removed (is_of n) id it.sub es it.found ∙ ap (λ b. length (filter (is_of n) (subs_of less)) + cond b 1 0) mine

    others_from : (xs : List Subscription) → filter (λ x. not (is_of n x)) (filter (λ x. not (is_sub n sid x)) xs) ≡ filter (λ x. not (is_of n x)) xs
    others_from [] = refl
    others_from (x ∷ xs) = go (x.session == n) (same x.sid sid) refl (others_from xs)
      where
        rest : List Subscription
        rest = filter (λ y. not (is_of n y)) xs

        left : List Subscription
        left = filter (λ y. not (is_sub n sid y)) xs

        go : (b c : Bool) → (x.session == n) ≡ b → filter (λ y. not (is_of n y)) left ≡ rest → filter (λ y. not (is_of n y)) (cond (not (b && c)) (x ∷ left) left) ≡ cond (not b) (x ∷ rest) rest
        go true true e h = h
        go true false e h = ap (λ b. cond (not b) (x ∷ filter (λ y. not (is_of n y)) left) (filter (λ y. not (is_of n y)) left)) e ∙ h
        go false c e h = ap (λ b. cond (not b) (x ∷ filter (λ y. not (is_of n y)) left) (filter (λ y. not (is_of n y)) left)) e ∙ ap (λ (ys : List Subscription). x ∷ ys) h

    pub others_stay : filter (λ x. not (is_of n x)) (subs_of less) ≡ filter (λ x. not (is_of n x)) (subs_of es)
    others_stay = ap (filter (λ x. not (is_of n x))) list_less ∙ others_from (subs_of es)

    patterns_less : without id index ≡ map indexed less
    patterns_less = ap (without id) holds.patterns ∙ sym (removed indexed (λ sub. sub.id == id) id es holds.ordered (numbers es))
      where
        numbers : (xs : Numbered) → AllByRecursion (λ e. at id e.0 ≡ (e.0 == id)) xs
        numbers [] = tt
        numbers (e ∷ xs) = (at_is id e.0, numbers xs)

    module _ (names' : Names) (drops : DropsName names names' n sid) where
      names_less : (m : ℕ) (t : Bytes) (k : ℕ) → number_of names' m t ≡ Some k → is_sub_some m t (lookup (at k) less) ≡ true
      names_less m t k h = go (n == m && same sid t) refl
        where
          there : (n == m && same sid t) ≡ false → number_of names m t ≡ Some k → (c : Bool) → at id k ≡ c → is_sub_some m t (lookup (at k) less) ≡ true
          there e h' true f =
              let other = found_under m t k h' in
              let same' : other.sub ≡ it.sub = some_is (sym other.found ∙ ap (at_number es) (at_same id k f) ∙ it.found) in
              let named = subst (λ x. is_sub m t x ≡ true) same' other.is in
              absurd (true≢false (sym (names_alike n m sid t (sym (session_is n sid it.sub it.is) ∙ session_is m t it.sub named) (sym (sid_is n sid it.sub it.is) ∙ sid_is m t it.sub named)) ∙ e))
          there e h' false f = subst (λ o. is_sub_some m t o ≡ true) (sym (looked_other k f)) (holds.names_some m t k h')

          go : (b : Bool) → (n == m && same sid t) ≡ b → is_sub_some m t (lookup (at k) less) ≡ true
          go true e = absurd (none_some (sym (drops.at m t ∙ ap (λ b. cond b None (number_of names m t)) e) ∙ h))
          go false e = there e (sym (drops.at m t ∙ ap (λ b. cond b None (number_of names m t)) e) ∙ h) (at id k) refl

      named_less : (k : ℕ) (x : Subscription) → lookup (at k) less ≡ Some x → number_of names' x.session x.sid ≡ Some k
      named_less k x h = go (at id k) refl
        where
          kept : at id k ≡ false → number_of names x.session x.sid ≡ Some k → (b : Bool) → (n == x.session && same sid x.sid) ≡ b → number_of names' x.session x.sid ≡ Some k
          kept f h' true e =
              let parts = same_name n x.session sid x.sid e in
              let same' : k ≡ id = some_is (sym h' ∙ ap (λ m. number_of names m x.sid) (sym parts.0) ∙ ap (number_of names n) (sym parts.1) ∙ was) in
              absurd (true≢false (sym (at_self id) ∙ ap (at id) (sym same') ∙ f))
          kept f h' false e = drops.at x.session x.sid ∙ ap (λ b. cond b None (number_of names x.session x.sid)) e ∙ h'

          go : (c : Bool) → at id k ≡ c → number_of names' x.session x.sid ≡ Some k
          go true f = absurd (none_some (sym (looked k ∙ ap (λ b. cond b None (at_number es k)) f) ∙ h))
          go false f = kept f (holds.is_named k x (sym (looked_other k f) ∙ h)) (n == x.session && same sid x.sid) refl

      counts_less : (m : ℕ) → count_of names' m ≡ length (filter (is_of m) (subs_of less))
      counts_less m =
          let ours : ◌≡◌ {A = ℕ} (cond (it.sub.session == m) 1 0) (cond (n == m) 1 0) = ap (λ s. cond (s == m) 1 0) (session_is n sid it.sub it.is) in
          omega (arith, drops.counts m, holds.counts m, count_removed (is_of m) id it.sub es it.found, ours)

      pub holds_less : (es' : Numbered) (index' : List Sub) → es' ≡ less → IsStrictlySortedBy nat_cmp (keys_of es') → index' ≡ without id index → Holds es' names' index' next
      holds_less es' index' left rising patterns =
          subst (λ xs. Holds xs names' index' next) (sym left) (record {
            ordered = subst (λ (xs : Numbered). IsStrictlySortedBy nat_cmp (keys_of xs)) left rising;
            below = below_removed id next es holds.below;
            patterns = patterns ∙ patterns_less;
            names_some = names_less;
            is_named = named_less;
            counts = counts_less;
          })

  -- ---- the same names

  pub holds_kept : (names' : Names) → KeepsNames names names' → Holds es names' index next
  holds_kept names' keeps = record {
    ordered = holds.ordered;
    below = holds.below;
    patterns = holds.patterns;
    names_some = λ n sid id h. holds.names_some n sid id (sym (keeps.at n sid) ∙ h);
    is_named = λ id sub h. keeps.at sub.session sub.sid ∙ holds.is_named id sub h;
    counts = λ n. keeps.counts n ∙ holds.counts n;
  }

  -- ---- changed

  module _ (f : Subscription → Subscription) (session : (x : Subscription) → (f x).session ≡ x.session) (sid : (x : Subscription) → (f x).sid ≡ x.sid)
      (pattern : (x : Subscription) → (f x).pattern ≡ x.pattern) where
    pub holds_changed : Holds (changed f es) names index next
    holds_changed = record {
      ordered = subst (λ ks. IsStrictlySortedBy nat_cmp ks) (sym (keys-changed f es)) holds.ordered;
      below = below_changed f next es holds.below;
      patterns = holds.patterns ∙ sym (map-changed f indexed (λ e. ap (λ p. record { id = e.0; pattern = p }) (pattern e.1)) es);
      names_some = λ n t k h. subst (λ o. is_sub_some n t o ≡ true) (sym (lookup-changed f k es)) (named_too n t (at_number es k) (holds.names_some n t k h));
      is_named = λ k y h. back k y (at_number es k) refl (sym (lookup-changed f k es) ∙ h);
      counts = λ n. holds.counts n ∙ sym (count-changed f (is_of n) (λ x. ap (λ s. s == n) (session x)) es);
    }
      where
        named_too : (n : ℕ) (t : Bytes) (o : Option Subscription) → is_sub_some n t o ≡ true → is_sub_some n t (changed_option f o) ≡ true
        named_too n t None h = h
        named_too n t (Some x) h = ap (λ s. s == n && same (f x).sid t) (session x) ∙ ap (λ u. x.session == n && same u t) (sid x) ∙ h

        back : (k : ℕ) (y : Subscription) (o : Option Subscription) → at_number es k ≡ o → changed_option f o ≡ Some y → number_of names y.session y.sid ≡ Some k
        back k y None e h = absurd (none_some h)
        back k y (Some x) e h =
            let same' : f x ≡ y = some_is h in
            subst (λ z. number_of names z.session z.sid ≡ Some k) same'
            (ap (λ s. number_of names s (f x).sid) (session x) ∙ ap (number_of names x.session) (sid x) ∙ holds.is_named k x e)

-- ---- one more

looked_old : (k : ℕ) (p : ℕ × Subscription) (x : Subscription) (es : Numbered) → lookup (at k) es ≡ Some x → lookup (at k) (es ++ p ∷ []) ≡ Some x
looked_old k p x [] h = absurd (none_some h)
looked_old k p x (e ∷ es) h = go (at k e.0) (looked_old k p x es) h
  where
    go : (b : Bool) → (lookup (at k) es ≡ Some x → lookup (at k) (es ++ p ∷ []) ≡ Some x) → cond b (Some e.1) (lookup (at k) es) ≡ Some x → cond b (Some e.1) (lookup (at k) (es ++ p ∷ [])) ≡ Some x
    go true rest l = l
    go false rest l = rest l

looked_new : (id : ℕ) (x : Subscription) (es : Numbered) → lookup (at id) es ≡ None → lookup (at id) (es ++ (id, x) ∷ []) ≡ Some x
looked_new id x [] h = ap (λ b. cond b (Some x) None) (at_self id)
looked_new id x (e ∷ es) h = go (at id e.0) (looked_new id x es) h
  where
    go : (b : Bool) → (lookup (at id) es ≡ None → lookup (at id) (es ++ (id, x) ∷ []) ≡ Some x) → cond b (Some e.1) (lookup (at id) es) ≡ None → cond b (Some e.1) (lookup (at id) (es ++ (id, x) ∷ [])) ≡ Some x
    go true rest l = absurd (none_some (sym l))
    go false rest l = rest l

looked_back : (k id : ℕ) (x y : Subscription) (es : Numbered) → lookup (at k) (es ++ (id, y) ∷ []) ≡ Some x → (lookup (at k) es ≡ Some x) ⊎ ((id ≡ k) × (y ≡ x))
looked_back k id x y [] h = go (at k id) refl h
  where
    go : (b : Bool) → at k id ≡ b → cond b (Some y) None ≡ Some x → (None ≡ Some x) ⊎ ((id ≡ k) × (y ≡ x))
    go true e h = inr (at_same k id e, some_is h)
    go false e h = inl h
looked_back k id x y (e ∷ es) h = go (at k e.0) (looked_back k id x y es) h
  where
    go : (b : Bool) → (lookup (at k) (es ++ (id, y) ∷ []) ≡ Some x → (lookup (at k) es ≡ Some x) ⊎ ((id ≡ k) × (y ≡ x))) → cond b (Some e.1) (lookup (at k) (es ++ (id, y) ∷ [])) ≡ Some x → (cond b (Some e.1) (lookup (at k) es) ≡ Some x) ⊎ ((id ≡ k) × (y ≡ x))
    go true rest l = inl l
    go false rest l = rest l

module _ (es : Numbered) (names names' : Names) (index : List Sub) (next : ℕ) (holds : Holds es names index next) (n : ℕ) (sid : Bytes) (free : number_of names n sid ≡ None)
    (adds : AddsName names names' n sid next) (sub : Subscription) (of : sub.session ≡ n) (under : sub.sid ≡ sid) where
  abbrev more : Numbered
  more = es ++ (next, sub) ∷ []

  names_more : (m : ℕ) (t : Bytes) (k : ℕ) → number_of names' m t ≡ Some k → is_sub_some m t (lookup (at k) more) ≡ true
  names_more m t k h = go (n == m && same sid t) refl (sym (adds.at m t) ∙ h)
    where
      go : (b : Bool) → (n == m && same sid t) ≡ b → cond b (Some next) (number_of names m t) ≡ Some k → is_sub_some m t (lookup (at k) more) ≡ true
      go true e h' =
          let here : lookup (at k) more ≡ Some sub = ap (λ j. lookup (at j) more) (sym (some_is h')) ∙ looked_new next sub es (none_above next es holds.below) in
          let named : is_sub m t sub ≡ true = ap (λ s. s == m && same sub.sid t) of ∙ ap (λ u. n == m && same u t) under ∙ e in
          subst (λ o. is_sub_some m t o ≡ true) (sym here) named
      go false e h' =
          let it = found_under es names index next holds m t k h' in
          subst (λ o. is_sub_some m t o ≡ true) (sym (looked_old k (next, sub) it.sub es it.found)) it.is

  named_more : (k : ℕ) (x : Subscription) → lookup (at k) more ≡ Some x → number_of names' x.session x.sid ≡ Some k
  named_more k x h = go (looked_back k next x sub es h)
    where
      old : number_of names x.session x.sid ≡ Some k → (b : Bool) → (n == x.session && same sid x.sid) ≡ b → cond b (Some next) (number_of names x.session x.sid) ≡ Some k
      old h' true e =
          let parts = same_name n x.session sid x.sid e in
          absurd (none_some (sym free ∙ ap (λ m. number_of names m sid) parts.0 ∙ ap (number_of names x.session) parts.1 ∙ h'))
      old h' false e = h'

      go : (lookup (at k) es ≡ Some x) ⊎ ((next ≡ k) × (sub ≡ x)) → number_of names' x.session x.sid ≡ Some k
      go (inl h') = adds.at x.session x.sid ∙ old (holds.is_named k x h') (n == x.session && same sid x.sid) refl
      go (inr h') =
          let named : (n == sub.session && same sid sub.sid) ≡ true = names_alike n sub.session sid sub.sid (sym of) (sym under) in
          subst (λ y. number_of names' y.session y.sid ≡ Some k) h'.1
          (adds.at sub.session sub.sid ∙ ap (λ b. cond b (Some next) (number_of names sub.session sub.sid)) named ∙ ap (λ j. Some j) h'.0)

  counts_more : (m : ℕ) → count_of names' m ≡ length (filter (is_of m) (subs_of more))
  counts_more m =
      let last : length (filter (is_of m) (sub ∷ [])) ≡ cond (n == m) 1 0 = ap (λ s. length (cond (s == m) (sub ∷ []) [])) of ∙ one (n == m) in
      let all : length (filter (is_of m) (subs_of more)) ≡ length (filter (is_of m) (subs_of es)) + length (filter (is_of m) (sub ∷ [])) =
      ap (λ xs. length (filter (is_of m) xs)) (map-append (λ e. e.1) es ((next, sub) ∷ [])) ∙ ap length (filter-append (is_of m) (subs_of es) (sub ∷ [])) ∙ length-append (filter (is_of m) (subs_of es)) (filter (is_of m) (sub ∷ [])) in
      omega (arith, adds.counts m, holds.counts m, last, all)
    where
      one : (b : Bool) → length (cond b (sub ∷ []) []) ≡ cond b 1 0
      one true = refl
      one false = refl

  pub holds_more : (es' : Numbered) (index' : List Sub) → es' ≡ more → IsStrictlySortedBy nat_cmp (keys_of es') → index' ≡ map indexed es' → Holds es' names' index' (next + 1)
  holds_more es' index' left rising patterns =
      subst (λ xs. Holds xs names' index' (next + 1)) (sym left) (record {
        ordered = subst (λ (xs : Numbered). IsStrictlySortedBy nat_cmp (keys_of xs)) left rising;
        below = below_added next sub es holds.below;
        patterns = patterns ∙ ap (map indexed) left;
        names_some = names_more;
        is_named = named_more;
        counts = counts_more;
      })

-- a name that was added and taken out again
pub kept_again : (a b c : Names) (n : ℕ) (sid : Bytes) (id : ℕ) → number_of a n sid ≡ None → AddsName a b n sid id → DropsName b c n sid → KeepsNames a c
kept_again a b c n sid id free adds drops = record { at = λ m t. drops.at m t ∙ go m t (n == m && same sid t) refl; counts = λ m. omega (arith, adds.counts m, drops.counts m) }
  where
    go : (m : ℕ) (t : Bytes) (x : Bool) → (n == m && same sid t) ≡ x → cond x None (number_of b m t) ≡ number_of a m t
    go m t true e =
        let parts = same_name n m sid t e in
        sym free ∙ ap (λ k. number_of a k sid) parts.0 ∙ ap (number_of a m) parts.1
    go m t false e = adds.at m t ∙ ap (λ y. cond y (Some id) (number_of a m t)) e

pub taken_back : (a b c : Names) (n : ℕ) (sid : Bytes) (id : ℕ) (was : Option ℕ) → number_of a n sid ≡ None → AddsName a b n sid id → was ≡ number_of b n sid → IfSome was (λ _. DropsName b c n sid) → KeepsNames a c
taken_back a b c n sid id was free adds e drops = go was (e ∙ adds.at n sid ∙ ap (λ y. cond y (Some id) (number_of a n sid)) (names_alike n n sid sid refl refl)) drops
  where
    go : (o : Option ℕ) → o ≡ Some id → IfSome o (λ _. DropsName b c n sid) → KeepsNames a c
    go None h d = absurd (none_some h)
    go (Some k) h d = kept_again a b c n sid id free adds d

pub holds_same : (es es' : Numbered) (names : Names) (index index' : List Sub) (next : ℕ) → Holds es names index next → es' ≡ es → index' ≡ index → Holds es' names index' next
holds_same es es' names index index' next holds left patterns =
    subst (λ xs. Holds xs names index' next) (sym left) (subst (λ ys. Holds es names ys next) (sym patterns) holds)

-- ---- changes of one subscription

module _ (n : ℕ) (sid : Bytes) where
  module _ (max : ℕ) where
    pub limits_fix : (x : Subscription) → is_sub n sid x ≡ false → limited n sid max x ≡ x
    limits_fix x h = ap (λ b. cond b (record x { max = Some max }) x) h

    abbrev with_limit : Subscription → Bool → Subscription
    with_limit x b = cond b (record x { max = Some max }) x

    pub limits_session : (x : Subscription) → (limited n sid max x).session ≡ x.session
    limits_session x = go (is_sub n sid x)
      where
        go : (b : Bool) → (with_limit x b).session ≡ x.session
        go true = refl
        go false = refl

    pub limits_sid : (x : Subscription) → (limited n sid max x).sid ≡ x.sid
    limits_sid x = go (is_sub n sid x)
      where
        go : (b : Bool) → (with_limit x b).sid ≡ x.sid
        go true = refl
        go false = refl

    pub limits_pattern : (x : Subscription) → (limited n sid max x).pattern ≡ x.pattern
    limits_pattern x = go (is_sub n sid x)
      where
        go : (b : Bool) → (with_limit x b).pattern ≡ x.pattern
        go true = refl
        go false = refl

  pub counts_fix : (x : Subscription) → is_sub n sid x ≡ false → counted n sid x ≡ x
  counts_fix x h = ap (λ b. cond b (record x { sent = one_more x.sent }) x) h

  abbrev with_count : Subscription → Bool → Subscription
  with_count x b = cond b (record x { sent = one_more x.sent }) x

  pub counts_session : (x : Subscription) → (counted n sid x).session ≡ x.session
  counts_session x = go (is_sub n sid x)
    where
      go : (b : Bool) → (with_count x b).session ≡ x.session
      go true = refl
      go false = refl

  pub counts_sid : (x : Subscription) → (counted n sid x).sid ≡ x.sid
  counts_sid x = go (is_sub n sid x)
    where
      go : (b : Bool) → (with_count x b).sid ≡ x.sid
      go true = refl
      go false = refl

  pub counts_pattern : (x : Subscription) → (counted n sid x).pattern ≡ x.pattern
  counts_pattern x = go (is_sub n sid x)
    where
      go : (b : Bool) → (with_count x b).pattern ≡ x.pattern
      go true = refl
      go false = refl

-- ---- entering

pub above_all : (id : ℕ) (es : Numbered) → AreBelow id es → IsAbove id (map indexed es)
above_all id [] h = tt
above_all id (e ∷ es) h = (h.0, above_all id es h.1)

-- a number above all others is added to the index and taken out again
pub without_last : (index : List Sub) (one : Sub) → IsAbove one.id index → without one.id (index ++ one ∷ []) ≡ index
without_last [] one h =
    let here : (one.id == one.id) ≡ true = eq-eqb one.id one.id refl in
    ap (λ b. cond (not b) (one ∷ []) []) here
without_last (x ∷ xs) one h =
    let apart : (x.id == one.id) ≡ false = grind (arith, h.0) in
    ap (λ b. cond (not b) (x ∷ without one.id (xs ++ one ∷ [])) (without one.id (xs ++ one ∷ []))) apart ∙ ap (λ (ys : List Sub). x ∷ ys) (without_last xs one h.1)

-- ---- the end of a session

pub none_left : (n : ℕ) (xs : List Subscription) → length (filter (is_of n) xs) ≡ 0 → filter (λ x. not (is_of n x)) xs ≡ xs
none_left n [] h = refl
none_left n (x ∷ xs) h = go (x.session == n) (none_left n xs) h
  where
    go : (b : Bool) → (length (filter (is_of n) xs) ≡ 0 → filter (λ y. not (is_of n y)) xs ≡ xs) → length (cond b (x ∷ filter (is_of n) xs) (filter (is_of n) xs)) ≡ 0
        → cond (not b) (x ∷ filter (λ y. not (is_of n y)) xs) (filter (λ y. not (is_of n y)) xs) ≡ x ∷ xs
    go true rest k = absurd (omega (arith, k))
    go false rest k = ap (λ (ys : List Subscription). x ∷ ys) (rest k)

pub none_of : (n : ℕ) (xs : List Subscription) → length (filter (is_of n) (filter (λ x. not (is_of n x)) xs)) ≡ 0
none_of n [] = refl
none_of n (x ∷ xs) = go (x.session == n) refl (none_of n xs)
  where
    go : (b : Bool) → (x.session == n) ≡ b → length (filter (is_of n) (filter (λ y. not (is_of n y)) xs)) ≡ 0
        → length (filter (is_of n) (cond (not b) (x ∷ filter (λ y. not (is_of n y)) xs) (filter (λ y. not (is_of n y)) xs))) ≡ 0
    go true e k = k
    go false e k = ap (λ b. length (cond b (x ∷ filter (is_of n) (filter (λ y. not (is_of n y)) xs)) (filter (is_of n) (filter (λ y. not (is_of n y)) xs)))) e ∙ k

-- ---- what a test tells

pub on_true : {P : Type 0} (b : Bool) → (b ≡ true → P) → OnTrue b P
on_true true f = f refl
on_true false f = tt

pub on_false : {P : Type 0} (b : Bool) → (b ≡ false → P) → OnFalse b P
on_false true f = tt
on_false false f = f refl

-- ---- those that match

-- the subscriptions of these numbers
abbrev pub at_numbers : Numbered → List ℕ → List Subscription
at_numbers es ids = filter_map (at_number es) ids

pub gathers : (es : Numbered) (subject : Bytes) (index : List Sub) → IsStrictlySortedBy nat_cmp (keys_of es) → index ≡ map indexed es → at_numbers es (matching_ids subject index) ≡ filter (is_match subject) (subs_of es)
gathers es subject index rising e = ap (λ i. at_numbers es (matching_ids subject i)) e ∙ each es (each_entry (λ k x. at_number es k ≡ Some x) es rising (λ k x h. h))
  where
    each : (xs : Numbered) → AllByRecursion (λ e. at_number es e.0 ≡ Some e.1) xs → at_numbers es (matching_ids subject (map indexed xs)) ≡ filter (is_match subject) (subs_of xs)
    each [] h = refl
    each (x ∷ xs) h = go (is_match subject x.1) (each xs h.1)
      where
        go : (b : Bool) → at_numbers es (matching_ids subject (map indexed xs)) ≡ filter (is_match subject) (subs_of xs)
            → at_numbers es (map id_of (cond b (indexed x ∷ filter (index_match subject) (map indexed xs)) (filter (index_match subject) (map indexed xs)))) ≡ cond b (x.1 ∷ filter (is_match subject) (subs_of xs)) (filter (is_match subject) (subs_of xs))
        go true k = ap (λ o. cons_option o (at_numbers es (matching_ids subject (map indexed xs)))) h.0 ∙ ap (λ (ys : List Subscription). x.1 ∷ ys) k
        go false k = k

pub numbers_more : (es : Numbered) (found : List Subscription) (ids : List ℕ) (i d : ℕ) (o : Option Subscription) → i < length ids → found ≡ at_numbers es (take i ids) → o ≡ at_number es (get_or ids i d)
    → found ++ cons_option o [] ≡ at_numbers es (take (i + 1) ids)
numbers_more es found ids i d o within made is =
    ap (λ xs. xs ++ cons_option o []) made ∙ ap (λ p. at_numbers es (take i ids) ++ cons_option p []) is
    ∙ sym (ap (at_numbers es) (take_more ids i d within) ∙ filter_map-append (at_number es) (take i ids) (get_or ids i d ∷ []))

-- ---- those that may be sent a message, among those that match

filter_both : {X : Type 0} (p q : X → Bool) (xs : List X) → filter q (filter p xs) ≡ filter (λ x. p x && q x) xs
filter_both p q [] = refl
filter_both {X} p q (x ∷ xs) = go (p x) (filter_both p q xs)
  where
    go : (a : Bool) → filter q (filter p xs) ≡ filter (λ y. p y && q y) xs → filter q (cond a (x ∷ filter p xs) (filter p xs)) ≡ cond (a && q x) (x ∷ filter (λ y. p y && q y) xs) (filter (λ y. p y && q y) xs)
    go true h = ap (λ (ys : List X). cond (q x) (x ∷ ys) ys) h
    go false h = h

-- it is none of the deaf publisher's own
abbrev pub is_reached : Option ℕ → Subscription → Bool
is_reached deaf sub = not (is_number deaf sub.session)

reached_one : (deaf : Option ℕ) (o : Option Subscription) → cons_option (heard_some deaf o) [] ≡ filter (is_reached deaf) (cons_option o [])
reached_one deaf None = refl
reached_one deaf (Some x) = go (is_number deaf x.session)
  where
    go : (b : Bool) → cons_option (cond b None (Some x)) [] ≡ cond (not b) (x ∷ []) []
    go true = refl
    go false = refl

pub heard_more : (deaf : Option ℕ) (es : Numbered) (found : List Subscription) (ids : List ℕ) (i d : ℕ) (o : Option Subscription) → i < length ids → found ≡ filter (is_reached deaf) (at_numbers es (take i ids))
    → o ≡ heard_some deaf (at_number es (get_or ids i d)) → found ++ cons_option o [] ≡ filter (is_reached deaf) (at_numbers es (take (i + 1) ids))
heard_more deaf es found ids i d o within made is =
    let so_far = at_numbers es (take i ids) in
    let one = at_number es (get_or ids i d) in
    ap (λ xs. xs ++ cons_option o []) made ∙ ap (λ p. filter (is_reached deaf) so_far ++ cons_option p []) is ∙ ap (λ xs. filter (is_reached deaf) so_far ++ xs) (reached_one deaf one)
    ∙ sym (filter-append (is_reached deaf) so_far (cons_option one [])) ∙ ap (filter (is_reached deaf)) (numbers_more es so_far ids i d one within refl refl)

pub all_heard : (deaf : Option ℕ) (es : Numbered) (subject : Bytes) (index : List Sub) → IsStrictlySortedBy nat_cmp (keys_of es) → index ≡ map indexed es
    → filter (is_reached deaf) (at_numbers es (matching_ids subject index)) ≡ filter (hears subject deaf) (subs_of es)
all_heard deaf es subject index rising e = ap (filter (is_reached deaf)) (gathers es subject index rising e) ∙ filter_both (is_match subject) (is_reached deaf) (subs_of es)

-- ---- whether one of those that match passes a test

any_of_both : {X : Type 0} (p q : X → Bool) (xs : List X) → list_any q (filter p xs) ≡ list_any (λ x. p x && q x) xs
any_of_both p q [] = refl
any_of_both {X} p q (x ∷ xs) = go (p x) (any_of_both p q xs)
  where
    go : (a : Bool) → list_any q (filter p xs) ≡ list_any (λ y. p y && q y) xs → list_any q (cond a (x ∷ filter p xs) (filter p xs)) ≡ ((a && q x) || list_any (λ y. p y && q y) xs)
    go true h = ap (λ b. q x || b) h
    go false h = h

any_number : (group : Option Bytes) (es : Numbered) (ids : List ℕ) → list_any (λ id. is_member group (at_number es id)) ids ≡ list_any (is_in_group group) (at_numbers es ids)
any_number group es [] = refl
any_number group es (id ∷ ids) = go (at_number es id) (any_number group es ids)
  where
    go : (o : Option Subscription) → list_any (λ n. is_member group (at_number es n)) ids ≡ list_any (is_in_group group) (at_numbers es ids)
        → (is_member group o || list_any (λ n. is_member group (at_number es n)) ids) ≡ list_any (is_in_group group) (cons_option o (at_numbers es ids))
    go None h = h
    go (Some x) h = ap (λ b. is_in_group group x || b) h

pub any_member : (group : Option Bytes) (es : Numbered) (subject : Bytes) (index : List Sub) → IsStrictlySortedBy nat_cmp (keys_of es) → index ≡ map indexed es
    → list_any (λ id. is_member group (at_number es id)) (matching_ids subject index) ≡ list_any (λ sub. is_match subject sub && is_in_group group sub) (subs_of es)
any_member group es subject index rising e =
    any_number group es (matching_ids subject index) ∙ ap (list_any (is_in_group group)) (gathers es subject index rising e) ∙ any_of_both (is_match subject) (is_in_group group) (subs_of es)

-- ---- the subscription for which a message was counted

pub found_changed : (f : Subscription → Subscription) (id : ℕ) (es es' : Numbered) (v new : Subscription) → es' ≡ changed f es → Some v ≡ at_number es id → new ≡ f v → at_number es' id ≡ Some new
found_changed f id es es' v new left here made = ap (λ xs. lookup (at id) xs) left ∙ lookup-changed f id es ∙ ap (changed_option f) (sym here) ∙ ap (λ x. Some x) (sym made)

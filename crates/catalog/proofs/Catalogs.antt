-- What each call leaves of the catalog's parts.
use Rattle.std.proofs.Common.{◌≡◌, ◌≢◌, ℕ, zero, suc, ◌+◌, ◌*◌, ◌^◌, ◌<◌, ◌≤◌, ◌==◌, ◌⊎◌, inl, inr, Bool, true, false, if◌then◌else◌, List, [], ◌∷◌, ◌++◌, length, map, get_or, take, drop, replicate, not, Option, None, Some, Ok, Err, refl, sym, ap, subst, ◌∙◌, arith, eq-eqb}
use Rattle.std.specs.Prelude.{option_map}
use Rattle.std.specs.Option.{IsSome}
use Rattle.std.proofs.lemmas.List.{length-map, length-append, length-replicate, map-append, take_more}
use Rattle.std.proofs.Math.ListN.{set, length-set}
use Rattle.std.proofs.lemmas.Bool.{ne_eqb, true≢false}
use Rattle.std.proofs.lemmas.Bool.Decides.{eqb_tells}
use Rattle.js_base.specs.Bytes.{Bytes}
use Rattle.route_index.specs.declared.sub.Sub.{Sub}
use Rattle.route_index.specs.Subs.{IsAbove}
use Rattle.js_base.specs.Bytes.{same}
use Rattle.js_base.specs.declared.out.ApiError.{ApiError}
use Rattle.js_model.specs.declared.desk.PlaceAt.{PlaceAt}
use Rattle.js_model.specs.declared.kept_place.KeptPlace.{KeptPlace}
use Rattle.js_model.specs.declared.catalog_fault.CatalogFault.{CatalogFault}
use Rattle.js_model.specs.declared.catalog_fault.CatalogFault.TheVariants as faults
use Rattle.js_model.specs.Refusals.{other_config, subjects_overlap, no_free_place}
use Rattle.js_model.specs.Catalog.{Catalog, Place, Used, with_place, edited, edited_used, taken_by, on_used, changing, keeping, kept_list, stopping, freed, Add, Change, Done, At, Refused, Cataloged, IsCatalogCall, catalog_call, telling, added, added_at, overlaps, overlaps_at, free_place, first_place, is_used, is_there, if_used, place_named, new_place, kept_place, kept_stream}
use Rattle.catalog.specs.declared.listing.Listing.{Listing}
use Rattle.catalog.specs.declared.names.Names.{Names}
use Rattle.catalog.specs.declared.catalog.Catalog.TheInside.{Inside}
use Rattle.js_model.specs.Cataloging.{HasPlace, IsUsed, add_told}
use Rattle.catalog.specs.declared.entry.Listed.{Listed}
use Rattle.catalog.specs.declared.entry.Stream.{Stream}
use Rattle.catalog.specs.declared.entry.Entry.{Entry}
use Rattle.catalog.specs.Numbers.{numbers, without_numbers, subs_of_place, IsPut}
use Rattle.catalog.specs.Names.{place_in, Sets}
use Rattle.catalog.specs.Entries.{used_of, place_of, is_other, is_open, vacant_place, ChecksAdd, lists_of, lists_of_used, lists_of_stream, lists_at, subs_of_lists, without_lists, HaveRoom, LeavesList}
use Rattle.catalog.specs.Apart.{used_at, IsApart}
use Rattle.catalog.specs.Holding.{NamesPlaces, ListsPlaces, ArePlaced, Holds, is_number}
use Rattle.catalog.proofs.Numbering.{above_more, taken_back}
use Rattle.catalog.proofs.Apartness.{DiffersAt, used_other, first_used, taken_there, on_used_there, freed_there, keep_apart, stop_apart, remove_apart, vacant_apart, used_end, checks_pass, not_there, add_apart, edited_end, front_apart}
use Rattle.catalog.proofs.Naming.{KeepsName, name_put, name_gone, names_kept, names_same}
use Rattle.catalog.proofs.Placing.{lists_set_same, lists_set_other, lists_get, lists_end, set_differs, lists_put, lists_same, lists_cut, one_left, left_room, lists_gone, room_from, placed_higher}

-- ---- the place of an entry that changes

edited_from : (edit : Place → Place) (es : List Entry) (i n k : ℕ) (old new : Entry) → k ≡ n + i → i < length es → old ≡ get_or es i old → place_of new ≡ edit (place_of old)
    → with_place edit k n (map place_of es) ≡ map place_of (set es i new)
edited_from edit [] i n k old new at within is made = absurd (omega (arith, within))
edited_from edit (x ∷ xs) zero n k old new at within is made =
    ap (λ (b : Bool). if b then edit (place_of x) ∷ map place_of xs else place_of x ∷ with_place edit k (n + 1) (map place_of xs)) (eq-eqb n k (omega arith))
    ∙ ap (λ (y : Entry). edit (place_of y) ∷ map place_of xs) (sym is)
    ∙ ap (λ (p : Place). p ∷ map place_of xs) (sym made)
edited_from edit (x ∷ xs) (suc i) n k old new at within is made =
    ap (λ (b : Bool). if b then edit (place_of x) ∷ map place_of xs else place_of x ∷ with_place edit k (n + 1) (map place_of xs)) (ne_eqb n k (λ (same : n ≡ k). omega arith))
    ∙ ap (λ (rest : List Place). place_of x ∷ rest) (edited_from edit xs i (n + 1) k old new (omega arith) (omega arith) is made)

pub edited_set : (edit : Place → Place) (es : List Entry) (i : ℕ) (old new : Entry) → i < length es → old ≡ get_or es i old → place_of new ≡ edit (place_of old)
    → edited edit i (map place_of es) ≡ map place_of (set es i new)
edited_set edit es i old new within is made = edited_from edit es i 0 i old new (omega arith) within is made

pub stream_at : (es : List Entry) (i : ℕ) (e : Entry) → i < length es → e ≡ get_or es i e → used_at (map place_of es) i ≡ (place_of e).used
stream_at [] i e within is = absurd (omega (arith, within))
stream_at (x ∷ es) zero e within is = ap (λ (y : Entry). (place_of y).used) (sym is)
stream_at (x ∷ es) (suc i) e within is = stream_at es i e (omega (arith, within)) is

none_of : (o : Option Stream) (e : Entry) → e.used ≡ o → (place_of e).used ≡ None → lists_of e ≡ []
none_of None e is h = ap lists_of_used is
none_of (Some s) e is h = absurd (never (used_of s) (sym (ap (option_map used_of) is) ∙ h))
  where
    never : (u : Used) → Some u ≡ None → ⊥
    never u e = cc (e)

-- ---- all parts

-- what `Holds` says but for the list of the used places, of the parts alone
pub record HoldParts (es : List Entry) (held : Names) (listing : Listing) : Type 0 where
  pub few : length es ≤ 32
  pub names : NamesPlaces held (map place_of es)
  pub lists : ListsPlaces listing es
  pub apart : IsApart (map place_of es)

few_set : (es : List Entry) (k : ℕ) (e : Entry) → length es ≤ 32 → length (set es k e) ≤ 32
few_set es k e h = omega (arith, h, length-set es k e)

-- an entry with the lists of the one before
same_lists : (es : List Entry) (listing : Listing) (k : ℕ) (e e' : Entry) → ListsPlaces listing es → k < length es → e ≡ get_or es k e → lists_of e' ≡ lists_of e → ListsPlaces listing (set es k e')
same_lists es listing k e e' h within is same' = lists_same listing listing es (set es k e') h refl (λ n. go n (eqb_tells n k))
  where
    go : (n : ℕ) → (((n == k) ≡ true) × (n ≡ k)) ⊎ (((n == k) ≡ false) × (n ≢ k)) → lists_at (set es k e') n ≡ lists_at es n
    go n (inl f) = ap (lists_at (set es k e')) f.1 ∙ lists_set_same es k e' within ∙ same' ∙ sym (lists_get es k e within is) ∙ ap (lists_at es) (sym f.1)
    go n (inr f) = lists_set_other es k n e' f.1

-- a stream at a free place
pub put_parts : (es : List Entry) (names names' : Names) (old new : Listing) (k first : ℕ) (name : Bytes) (xs : List Bytes) (e e' : Entry) → HoldParts es names old → k < length es → e ≡ get_or es k e
    → used_at (map place_of es) k ≡ None → IsApart (edited (taken_by name xs) k (map place_of es)) → place_of e' ≡ taken_by name xs (place_of e) → lists_of e' ≡ record { first = first; subjects = xs } ∷ []
    → IsPut k xs old first new → Sets names names' name (Some k) → HoldParts (set es k e') names' new
put_parts es names names' old new k first name xs e e' h within is free apart made lists put sets =
    let c : Catalog = map place_of es in
    let c' : Catalog = edited (taken_by name xs) k c in
    let view : c' ≡ map place_of (set es k e') = edited_set (taken_by name xs) es k e e' within is made in
    let inside : k < length c = omega (arith, within, length-map es place_of) in
    let differs : DiffersAt c c' k = record { others = λ m ne. used_other (taken_by name xs) c m k ne } in
    let P : Catalog → Type 0 = λ x. NamesPlaces names' x in
    let empty : lists_at es k ≡ [] = lists_get es k e within is ∙ none_of e.used e refl (sym (stream_at es k e within is) ∙ free) in
    let here : lists_at (set es k e') k ≡ lists_at es k ++ record { first = first; subjects = xs } ∷ [] = lists_set_same es k e' within ∙ lists ∙ ap (λ ls. ls ++ record { first = first; subjects = xs } ∷ []) (sym empty) in
    record {
      few = few_set es k e' h.few;
      names = subst P view (name_put names names' c c' k name (first_used name xs) h.names differs free (taken_there name xs c k inside) refl apart sets);
      lists = lists_put old new es (set es k e') k first xs (record { first = first; subjects = xs }) h.lists (omega (arith, within, h.few)) put refl here (set_differs es k e');
      apart = subst IsApart view apart;
    }

-- an entry whose stream changes, with its name and its lists told
kept_parts : (f : Used → Used) (es : List Entry) (names : Names) (listing : Listing) (k : ℕ) (e e' : Entry) → HoldParts es names listing → k < length es → e ≡ get_or es k e
    → place_of e' ≡ on_used f (place_of e) → KeepsName f → IsApart (edited (on_used f) k (map place_of es)) → NamesPlaces names (map place_of (set es k e')) × IsApart (map place_of (set es k e'))
kept_parts f es names listing k e e' h within is made keeps apart =
    let c : Catalog = map place_of es in
    let c' : Catalog = edited (on_used f) k c in
    let view : c' ≡ map place_of (set es k e') = edited_set (on_used f) es k e e' within is made in
    let inside : k < length c = omega (arith, within, length-map es place_of) in
    let differs : DiffersAt c c' k = record { others = λ m ne. used_other (on_used f) c m k ne } in
    let P : Catalog → Type 0 = λ x. NamesPlaces names x in
    (subst P view (names_kept names c c' k f h.names differs (on_used_there f c k inside) keeps), subst IsApart view apart)

changing_name : (xs : List Bytes) → KeepsName (changing xs)
changing_name xs = record { at = λ u. go u u.stopped }
  where
    go : (u : Used) (b : Bool) → (if b then u else record u { new_subjects = Some xs }).name ≡ u.name
    go u true = refl
    go u false = refl

keeping_name : (new : Bool) → KeepsName (keeping new)
keeping_name new = record { at = λ u. go u u.stopped u.new_subjects }
  where
    go : (u : Used) (b : Bool) (o : Option (List Bytes)) → (if b then u else kept_list new u o).name ≡ u.name
    go u true o = refl
    go u false None = refl
    go u false (Some xs) = refl

-- new subjects beside the old ones
pub change_parts : (es : List Entry) (names : Names) (old new : Listing) (k first : ℕ) (xs : List Bytes) (e e' : Entry) → HoldParts es names old → k < length es → e ≡ get_or es k e
    → IsApart (edited (on_used (changing xs)) k (map place_of es)) → place_of e' ≡ on_used (changing xs) (place_of e) → lists_of e' ≡ lists_of e ++ record { first = first; subjects = xs } ∷ []
    → IsPut k xs old first new → HoldParts (set es k e') names new
change_parts es names old new k first xs e e' h within is apart made lists put =
    let kept = kept_parts (changing xs) es names old k e e' h within is made (changing_name xs) apart in
    let here : lists_at (set es k e') k ≡ lists_at es k ++ record { first = first; subjects = xs } ∷ [] =
    lists_set_same es k e' within ∙ lists ∙ ap (λ ls. ls ++ record { first = first; subjects = xs } ∷ []) (sym (lists_get es k e within is)) in
    record {
      few = few_set es k e' h.few;
      names = kept.0;
      lists = lists_put old new es (set es k e') k first xs (record { first = first; subjects = xs }) h.lists (omega (arith, within, h.few)) put refl here (set_differs es k e');
      apart = kept.1;
    }

-- one list of subjects goes
pub keep_parts : (es : List Entry) (names : Names) (old new : Listing) (k : ℕ) (n : Bool) (e e' : Entry) (l : Listed) → HoldParts es names old → k < length es → e ≡ get_or es k e
    → place_of e' ≡ on_used (keeping n) (place_of e) → LeavesList (lists_of e) (Some l) (lists_of e') → new.index ≡ without_numbers (numbers l.first (length l.subjects)) old.index → new.rounds ≡ old.rounds
    → HoldParts (set es k e') names new
keep_parts es names old new k n e e' l h within is made left index rounds =
    let inside : k < length (map place_of es) = omega (arith, within, length-map es place_of) in
    let kept = kept_parts (keeping n) es names old k e e' h within is made (keeping_name n) (keep_apart n (map place_of es) k h.apart inside) in
    let P : List Listed → Type 0 = λ ls. LeavesList ls (Some l) (lists_at (set es k e') k) in
    let Q : List Listed → Type 0 = λ ls. LeavesList (lists_of e) (Some l) ls in
    let leaves = subst P (sym (lists_get es k e within is)) (subst Q (sym (lists_set_same es k e' within)) left) in
    record {
      few = few_set es k e' h.few;
      names = kept.0;
      lists = lists_cut old new es (set es k e') k l.first (length l.subjects) h.lists (one_left k old new (lists_at es k) (lists_at (set es k e') k) l (h.lists.placed k) leaves index rounds) (set_differs es k e');
      apart = kept.1;
    }

-- no list goes
pub keep_none : (es : List Entry) (names : Names) (listing : Listing) (k : ℕ) (n : Bool) (e e' : Entry) → HoldParts es names listing → k < length es → e ≡ get_or es k e
    → place_of e' ≡ on_used (keeping n) (place_of e) → lists_of e' ≡ lists_of e → HoldParts (set es k e') names listing
keep_none es names listing k n e e' h within is made same' =
    let inside : k < length (map place_of es) = omega (arith, within, length-map es place_of) in
    let kept = kept_parts (keeping n) es names listing k e e' h within is made (keeping_name n) (keep_apart n (map place_of es) k h.apart inside) in
    record { few = few_set es k e' h.few; names = kept.0; lists = same_lists es listing k e e' h.lists within is same'; apart = kept.1 }

-- a place that is marked stopped
pub stop_parts : (es : List Entry) (names : Names) (listing : Listing) (k : ℕ) (e e' : Entry) → HoldParts es names listing → k < length es → e ≡ get_or es k e
    → place_of e' ≡ on_used stopping (place_of e) → lists_of e' ≡ lists_of e → HoldParts (set es k e') names listing
stop_parts es names listing k e e' h within is made same' =
    let inside : k < length (map place_of es) = omega (arith, within, length-map es place_of) in
    let kept = kept_parts stopping es names listing k e e' h within is made (record { at = λ u. refl }) (stop_apart (map place_of es) k h.apart inside) in
    record { few = few_set es k e' h.few; names = kept.0; lists = same_lists es listing k e e' h.lists within is same'; apart = kept.1 }

-- a place that is freed
pub remove_parts : (es : List Entry) (names names' : Names) (old new : Listing) (k : ℕ) (dropped : Bool) (e e' : Entry) (s : Stream) → HoldParts es names old → k < length es → e ≡ get_or es k e
    → e.used ≡ Some s → place_of e' ≡ freed dropped (place_of e) → lists_of e' ≡ [] → Sets names names' s.name None → new.index ≡ without_lists (lists_of_stream s) old.index → new.rounds ≡ old.rounds
    → HoldParts (set es k e') names' new
remove_parts es names names' old new k dropped e e' s h within is used made none sets index rounds =
    let c : Catalog = map place_of es in
    let c' : Catalog = edited (freed dropped) k c in
    let view : c' ≡ map place_of (set es k e') = edited_set (freed dropped) es k e e' within is made in
    let inside : k < length c = omega (arith, within, length-map es place_of) in
    let differs : DiffersAt c c' k = record { others = λ m ne. used_other (freed dropped) c m k ne } in
    let P : Catalog → Type 0 = λ x. NamesPlaces names' x in
    let before : used_at c k ≡ Some (used_of s) = stream_at es k e within is ∙ ap (option_map used_of) used in
    let lists : lists_of_stream s ≡ lists_at es k = sym (lists_get es k e within is ∙ ap lists_of_used used) in
    record {
      few = few_set es k e' h.few;
      names = subst P view (name_gone names names' c c' k s.name (used_of s) h.names differs before (freed_there dropped c k inside) refl h.apart sets);
      lists = lists_gone old new es (set es k e') k (lists_of_stream s) h.lists lists index rounds (lists_set_same es k e' within ∙ none) (set_differs es k e');
      apart = subst IsApart view (remove_apart dropped c k h.apart inside);
    }

-- a place without a stream at the end
pub vacant_parts : (es : List Entry) (names : Names) (listing : Listing) (e : Entry) → HoldParts es names listing → length es < 32 → e.used ≡ None → HoldParts (es ++ e ∷ []) names listing
vacant_parts es names listing e h few none =
    let view : map place_of es ++ place_of e ∷ [] ≡ map place_of (es ++ e ∷ []) = sym (map-append place_of es (e ∷ [])) in
    let vacant : (place_of e).used ≡ None = ap (option_map used_of) none in
    let P : Catalog → Type 0 = λ x. NamesPlaces names x in
    record {
      few = omega (arith, few, length-append es (e ∷ []));
      names = subst P view (names_same names (map place_of es) (map place_of es ++ place_of e ∷ []) h.names (λ n. used_end (map place_of es) (place_of e) n vacant));
      lists = lists_same listing listing es (es ++ e ∷ []) h.lists refl (λ n. lists_end es e n (ap lists_of_used none));
      apart = subst IsApart view (vacant_apart (map place_of es) (place_of e) vacant h.apart);
    }

-- later rounds of the same subjects
pub lists_later : (old new : Listing) (es : List Entry) → ListsPlaces old es → new.index ≡ old.index → old.rounds ≤ new.rounds → new.rounds ≤ 2 ^ 58 → ListsPlaces new es
lists_later old new es h index later few =
    let P : List Sub → Type 0 = λ subs. IsAbove (new.rounds * 32) subs in
    record {
      earlier = record { above = subst P (sym index) (above_more (old.rounds * 32) (new.rounds * 32) old.index (omega (arith, later)) h.earlier.above); few = few };
      at = λ n. ap (subs_of_place n) index ∙ h.at n;
      placed = λ n. placed_higher n 0 (old.rounds * 32 + n) (new.rounds * 32 + n) (lists_at es n) (omega (arith, later)) (h.placed n);
    }

-- ---- what the calls ask

pub has_within : (c : Catalog) (n : ℕ) (holds : Place → Type 0) → HasPlace c n holds → n < length c
has_within [] n holds h = elim h [ ]
has_within (p ∷ ps) zero holds h = omega arith
has_within (p ∷ ps) (suc n) holds h = omega (arith, has_within ps n holds h)

pub inside_within : (es : List Entry) (c : Catalog) (k : ℕ) → map place_of es ≡ c → k < length c → k < length es
inside_within es c k view within = omega (arith, within, ap length view, length-map es place_of)

has_there : (holds : Place → Type 0) (es : List Entry) (k : ℕ) (e : Entry) → HasPlace (map place_of es) k holds → e ≡ get_or es k e → holds (place_of e)
has_there holds [] k e h is = elim h [ ]
has_there holds (x ∷ es) zero e h is = let P : Entry → Type 0 = λ y. holds (place_of y) in subst P (sym is) h
has_there holds (x ∷ es) (suc k) e h is = has_there holds es k e h is

pub has_at : (holds : Place → Type 0) (es : List Entry) (c : Catalog) (k : ℕ) (e : Entry) → map place_of es ≡ c → HasPlace c k holds → e ≡ get_or es k e → holds (place_of e)
has_at holds es c k e view h is = let P : Catalog → Type 0 = λ x. HasPlace x k holds in has_there holds es k e (subst P (sym view) h) is

pub edited_view : (edit : Place → Place) (es : List Entry) (c : Catalog) (i : ℕ) (old new : Entry) → map place_of es ≡ c → i < length es → old ≡ get_or es i old → place_of new ≡ edit (place_of old)
    → edited edit i c ≡ map place_of (set es i new)
edited_view edit es c i old new view within is made = ap (edited edit i) (sym view) ∙ edited_set edit es i old new within is made

pub parts_of : (inside : Inside) → Holds inside → HoldParts inside.entries.items inside.names inside.listing
parts_of inside h = record { few = h.few; names = h.names; lists = h.lists; apart = h.apart }

pub small : (es : List Entry) (k : ℕ) → k < length es → length es ≤ 32 → k < 32
small es k h g = omega (arith, h, g)

high_fits : (r k : ℕ) → r ≤ 2 ^ 58 → k < 32 → r * 32 + k < 2 ^ 64
high_fits r k h g = omega (arith, h, g)

-- what goes has numbers that fit 64 bits
pub left_fits : (es : List Entry) (names : Names) (listing : Listing) (k : ℕ) (e : Entry) (ls : List Listed) (l : Listed) → HoldParts es names listing → k < length es → e ≡ get_or es k e → LeavesList (lists_of e) (Some l) ls
    → l.first + 32 * length l.subjects < 2 ^ 64
left_fits es names listing k e ls l h within is left =
    let P : List Listed → Type 0 = λ xs. ArePlaced k 0 (listing.rounds * 32 + k) xs in
    left_room k (listing.rounds * 32 + k) (lists_of e) ls l (subst P (lists_get es k e within is) (h.lists.placed k)) (high_fits listing.rounds k h.lists.earlier.few (small es k within h.few)) left

pub stream_fits : (es : List Entry) (names : Names) (listing : Listing) (k : ℕ) (e : Entry) (s : Stream) → HoldParts es names listing → k < length es → e ≡ get_or es k e → e.used ≡ Some s → HaveRoom (lists_of_stream s)
stream_fits es names listing k e s h within is used =
    let P : List Listed → Type 0 = λ xs. ArePlaced k 0 (listing.rounds * 32 + k) xs in
    room_from k 0 (listing.rounds * 32 + k) (lists_of_stream s) (high_fits listing.rounds k h.lists.earlier.few (small es k within h.few))
    (subst P (lists_get es k e within is ∙ ap lists_of_used used) (h.lists.placed k))

-- ---- an addition

pub put_room : (old new : Listing) (k first : ℕ) (xs : List Bytes) → IsPut k xs old first new → k < 32 → first + 32 * length xs < 2 ^ 64
put_room old new k first xs put small' = omega (arith, put.number, put.rounds, put.few, small')

-- the subjects are taken back
pub put_back : (old mid new : Listing) (es : List Entry) (k first : ℕ) (xs : List Bytes) → ListsPlaces old es → IsPut k xs old first mid → new.index ≡ without_numbers (numbers first (length xs)) mid.index → new.rounds ≡ mid.rounds
    → ListsPlaces new es
put_back old mid new es k first xs h put index rounds =
    let above = above_more (old.rounds * 32) first old.index (omega (arith, put.number)) h.earlier.above in
    lists_later old new es h (index ∙ ap (without_numbers (numbers first (length xs))) put.index ∙ taken_back first (length xs) old.index xs (omega arith) above) (omega (arith, rounds, put.rounds)) (omega (arith, rounds, put.few))

abbrev place_or : Option PlaceAt → ℕ
place_or None = 0
place_or (Some at) = at.place

free_in : (p : Place) (ps : Catalog) (n : ℕ) (at : PlaceAt) (o : Option Used) → p.used ≡ o
    → (if not (is_used p) then Some (record { place = n; incarnation = p.incarnation }) else first_place (λ n p. not (is_used p)) (n + 1) ps) ≡ Some at
    → (first_place (λ n p. not (is_used p)) (n + 1) ps ≡ Some at → (i : ℕ) × (at.place ≡ n + 1 + i) × (used_at ps i ≡ None)) → (i : ℕ) × (at.place ≡ n + i) × (used_at (p ∷ ps) i ≡ None)
free_in p ps n at None e h more =
    let here : Some (record { place = n; incarnation = p.incarnation }) ≡ Some at =
    sym (ap (λ (x : Option Used). if not (if_used (λ u. true) x) then Some (record { place = n; incarnation = p.incarnation }) else first_place (λ n p. not (is_used p)) (n + 1) ps) e) ∙ h in
    let is : n ≡ at.place = ap place_or here in
    (0, omega (arith, is), e)
free_in p ps n at (Some u) e h more =
    let later = more (sym (ap (λ (x : Option Used). if not (if_used (λ u. true) x) then Some (record { place = n; incarnation = p.incarnation }) else first_place (λ n p. not (is_used p)) (n + 1) ps) e) ∙ h) in
    (suc later.0, omega (arith, later.1), later.2)

-- the place that is found has no stream
free_from : (c : Catalog) (n : ℕ) (at : PlaceAt) → first_place (λ n p. not (is_used p)) n c ≡ Some at → (i : ℕ) × (at.place ≡ n + i) × (used_at c i ≡ None)
free_from [] n at h = absurd (cc (h))
free_from (p ∷ ps) n at h = free_in p ps n at p.used refl h (λ g. free_from ps (n + 1) at g)

pub free_unused : (c : Catalog) (at : PlaceAt) → free_place c ≡ Some at → used_at c at.place ≡ None
free_unused c at h =
    let found = free_from c 0 at h in
    let is : at.place ≡ found.0 = omega (arith, found.1) in
    ap (used_at c) is ∙ found.2

pub checked_apart : (c : Catalog) (name : Bytes) (subjects : List Bytes) (free : PlaceAt) → IsApart c → ChecksAdd c name subjects (Ok free) → free.place < length c → IsApart (edited (taken_by name subjects) free.place c)
checked_apart c name subjects free apart h within =
    let pass = checks_pass (is_there (place_named name c)) (overlaps subjects c) (not (is_there (free_place c))) other_config subjects_overlap no_free_place h.0 in
    add_apart name subjects c free.place apart within (not_there (place_named name c) pass.0) pass.1

pub refused_add : (c : Catalog) (name : Bytes) (subjects : List Bytes) (fault : CatalogFault) → ChecksAdd c name subjects (Err fault) → IsCatalogCall c (Add name subjects) (add_told (Err fault)) c
unfolding catalog_call
refused_add c name subjects (faults.Refused error) h = inl (ap (λ (refused : Option ApiError). added name subjects c refused) h)
refused_add c name subjects faults.NoMemory h = inr (refl, refl, refl)

pub made_add : (c new : Catalog) (name : Bytes) (subjects : List Bytes) (free : PlaceAt) → ChecksAdd c name subjects (Ok free) → new ≡ edited (taken_by name subjects) free.place c
    → IsCatalogCall c (Add name subjects) (At (Some free)) new
unfolding catalog_call
made_add c new name subjects free h made =
    inl (ap (λ (refused : Option ApiError). added name subjects c refused) h.0
    ∙ ap (λ (found : Option PlaceAt). added_at name subjects c found) h.1
    ∙ ap (λ (places : Catalog). telling (At (Some free)) places) (sym made))

-- ---- other subjects

choosing : (c : Catalog) (place : ℕ) (subjects : List Bytes) → Bool → Cataloged
choosing c place subjects b = if b then telling (Refused subjects_overlap) c else telling Done (edited (on_used (changing subjects)) place c)

pub refused_change : (c : Catalog) (place : ℕ) (subjects : List Bytes) (error : ApiError) → true ≡ overlaps_at (is_other (Some place)) subjects 0 c → error ≡ subjects_overlap
    → IsCatalogCall c (Change place subjects) (Refused error) c
unfolding catalog_call choosing
refused_change c place subjects error h is = inl (ap (choosing c place subjects) (sym h) ∙ ap (λ (e : ApiError). telling (Refused e) c) (sym is))

pub made_change : (c new : Catalog) (place : ℕ) (subjects : List Bytes) → false ≡ overlaps_at (is_other (Some place)) subjects 0 c → new ≡ edited (on_used (changing subjects)) place c
    → IsCatalogCall c (Change place subjects) Done new
unfolding catalog_call choosing
made_change c new place subjects h made = inl (ap (choosing c place subjects) (sym h) ∙ ap (λ (places : Catalog). telling Done places) (sym made))

set_same : (es : List Entry) (k : ℕ) (e : Entry) → e ≡ get_or es k e → set es k e ≡ es
set_same [] k e is = refl
set_same (x ∷ es) zero e is = ap (λ (y : Entry). y ∷ es) is
set_same (x ∷ es) (suc k) e is = ap (λ (more : List Entry). x ∷ more) (set_same es k e is)

closed_stays : (xs : List Bytes) (o : Option Used) → if_used (λ u. not u.stopped) o ≡ false → edited_used (changing xs) o ≡ o
closed_stays xs None h = refl
closed_stays xs (Some u) h = go u.stopped refl h
  where
    go : (b : Bool) → u.stopped ≡ b → not u.stopped ≡ false → Some (if u.stopped then u else record u { new_subjects = Some xs }) ≡ Some u
    go true e h = ap (λ (b : Bool). Some (if b then u else record u { new_subjects = Some xs })) e
    go false e h = absurd (true≢false (sym (ap not e) ∙ h))

-- nothing changes at a place that is stopped
pub closed_change : (xs : List Bytes) (es : List Entry) (c : Catalog) (k : ℕ) (e : Entry) → map place_of es ≡ c → k < length es → e ≡ get_or es k e → is_open (place_of e) ≡ false → c ≡ edited (on_used (changing xs)) k c
closed_change xs es c k e view within is closed =
    let made : place_of e ≡ on_used (changing xs) (place_of e) = ap (λ (o : Option Used). record { incarnation = e.incarnation; used = o }) (sym (closed_stays xs (place_of e).used closed)) in
    sym (edited_view (on_used (changing xs)) es c k e e view within is made ∙ ap (map place_of) (set_same es k e is) ∙ view)

there_has : (holds : Place → Type 0) (es : List Entry) (k : ℕ) (e : Entry) → k < length es → e ≡ get_or es k e → holds (place_of e) → HasPlace (map place_of es) k holds
there_has holds [] k e within is h = absurd (omega (arith, within))
there_has holds (x ∷ es) zero e within is h = let P : Entry → Type 0 = λ y. holds (place_of y) in subst P is h
there_has holds (x ∷ es) (suc k) e within is h = there_has holds es k e (omega (arith, within)) is h

pub has_from : (holds : Place → Type 0) (es : List Entry) (c : Catalog) (k : ℕ) (e : Entry) → map place_of es ≡ c → k < length es → e ≡ get_or es k e → holds (place_of e) → HasPlace c k holds
has_from holds es c k e view within is h = let P : Catalog → Type 0 = λ x. HasPlace x k holds in subst P view (there_has holds es k e within is h)

-- ---- a place that is freed

pub not_unused : (e : Entry) → None ≡ e.used → IsUsed (place_of e) → ⊥
not_unused e h k = let P : Option Stream → Type 0 = λ o. IsSome (option_map used_of o) in true≢false (sym (subst P (sym h) k))

-- ---- the first places

none_in : (k n : ℕ) → used_at (replicate k new_place) n ≡ None
none_in zero n = refl
none_in (suc k) zero = refl
none_in (suc k) (suc n) = none_in k n

no_lists : (es : List Entry) (n : ℕ) → used_at (map place_of es) n ≡ None → lists_at es n ≡ []
no_lists [] n h = refl
no_lists (e ∷ es) zero h = none_of e.used e refl h
no_lists (e ∷ es) (suc n) h = no_lists es n h

pub new_parts : (es : List Entry) (held : Names) (listing : Listing) (places : ℕ) → places ≤ 32 → map place_of es ≡ replicate places new_place → ((name : Bytes) → place_in held name ≡ None) → listing.index ≡ []
    → listing.rounds ≡ 0 → HoldParts es held listing
new_parts es held listing places few vacant empty index rounds =
    let P : List Sub → Type 0 = λ subs. IsAbove (listing.rounds * 32) subs in
    record {
      few = omega (arith, few, ap length vacant, length-map es place_of, length-replicate places new_place);
      names = record { at = λ name n. ap (λ o. is_number o n) (empty name) ∙ sym (ap (if_used (λ u. same u.name name)) (none n)) };
      lists = record {
        earlier = record { above = subst P (sym index) tt; few = omega (arith, rounds) };
        at = λ n. ap (subs_of_place n) index ∙ ap subs_of_lists (sym (no_lists es n (none n)));
        placed = λ n. let Q : List Listed → Type 0 = λ ls. ArePlaced n 0 (listing.rounds * 32 + n) ls in subst Q (sym (no_lists es n (none n))) tt;
      };
      apart = record { at = λ m n a b ne ha hb. absurd (never a (sym (none m) ∙ ha)) };
    }
  where
    none : (n : ℕ) → used_at (map place_of es) n ≡ None
    none n = ap (λ c. used_at c n) vacant ∙ none_in places n

    never : (a : Used) → None ≡ Some a → ⊥
    never a e = cc (e)

-- ---- a place with what it kept

pub pushed_kept : (c new : Catalog) (kept : KeptPlace) (k : ℕ) (s : Bytes × List Bytes) (name : Bytes) (xs : List Bytes) → kept.stream ≡ Some s → name ≡ s.0 → xs ≡ s.1 → new ≡ c ++ vacant_place kept.incarnation ∷ []
    → k ≡ length c → edited (taken_by name xs) k new ≡ c ++ kept_place kept ∷ []
pushed_kept c new kept k s name xs is e f made at =
    ap (edited (taken_by name xs) k) made ∙ edited_end (taken_by name xs) c (vacant_place kept.incarnation) k at
    ∙ ap (λ (n : Bytes). c ++ taken_by n xs (vacant_place kept.incarnation) ∷ []) e ∙ ap (λ (ys : List Bytes). c ++ taken_by s.0 ys (vacant_place kept.incarnation) ∷ []) f
    ∙ ap (λ (o : Option (Bytes × List Bytes)). c ++ record { incarnation = kept.incarnation; used = option_map kept_stream o } ∷ []) (sym is)

pub kept_more : (kept : List KeptPlace) (i : ℕ) (item : KeptPlace) (c : Catalog) → i < length kept → item ≡ get_or kept i item → c ≡ map kept_place (take i kept) → c ++ kept_place item ∷ [] ≡ map kept_place (take (i + 1) kept)
kept_more kept i item c within is h =
    ap (λ (x : Catalog). x ++ kept_place item ∷ []) h ∙ sym (map-append kept_place (take i kept) (item ∷ []))
    ∙ ap (map kept_place) (ap (λ (y : KeptPlace). take i kept ++ y ∷ []) is ∙ sym (take_more kept i item within))

front_and_rest : (n : ℕ) (xs : List KeptPlace) → take n xs ++ drop n xs ≡ xs
front_and_rest zero xs = refl
front_and_rest (suc n) [] = refl
front_and_rest (suc n) (x ∷ xs) = ap (λ (more : List KeptPlace). x ∷ more) (front_and_rest n xs)

pub whole_front : (n : ℕ) (xs : List KeptPlace) → length xs ≤ n → take n xs ≡ xs
whole_front zero [] h = refl
whole_front zero (x ∷ xs) h = absurd (omega (arith, h))
whole_front (suc n) [] h = refl
whole_front (suc n) (x ∷ xs) h = ap (λ (more : List KeptPlace). x ∷ more) (whole_front n xs (omega (arith, h)))

pub kept_front_apart : (kept : List KeptPlace) (i : ℕ) (item : KeptPlace) (c : Catalog) → i < length kept → item ≡ get_or kept i item → c ≡ map kept_place (take i kept) → IsApart (map kept_place kept) → IsApart (c ++ kept_place item ∷ [])
kept_front_apart kept i item c within is h apart =
    let all : map kept_place kept ≡ map kept_place (take (i + 1) kept) ++ map kept_place (drop (i + 1) kept) =
    ap (map kept_place) (sym (front_and_rest (i + 1) kept)) ∙ map-append kept_place (take (i + 1) kept) (drop (i + 1) kept) in
    subst IsApart (sym (kept_more kept i item c within is h)) (front_apart (map kept_place (take (i + 1) kept)) (map kept_place (drop (i + 1) kept)) (subst IsApart all apart))

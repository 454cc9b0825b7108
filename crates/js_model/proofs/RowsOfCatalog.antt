-- Worked rows of the catalog.
use Rattle.std.proofs.Common.{inl, inr, sym, ap, ◌∙◌}
use Rattle.std.specs.Prelude.{ℕ, ◌≡◌, Bool, true, false, List, [], ◌∷◌, ◌++◌, Option, Some, None, codes, refl, fold, if◌then◌else◌}
use Rattle.std.proofs.lemmas.Bool.{false≢true}
use Rattle.js_base.specs.Bytes.{Bytes}
use Rattle.js_base.specs.declared.out.ApiError.{ApiError}
use Rattle.js_model.specs.declared.desk.PlaceAt.{PlaceAt}
use Rattle.js_model.specs.Refusals.{refusal, first_refusal, subjects_overlap}
use Rattle.js_model.specs.Catalog.{Catalog, Place, catalog_of, CatCall, Find, ByName, NextUsed, Add, Change, Keep, Remove, Stop, CatTold, Done, At, Refused, NoMemory, Cataloged, catalog_call, telling, IsCatalogCall, may_want, added, added_at, add_checks, free_place, edited, changing, on_used, overlaps_other}

-- ---- calls, one after the other

abbrev free : ℕ → Place
free incarnation = record { incarnation = incarnation; used = None }

abbrev after : Catalog → CatCall → Catalog
after c call = (catalog_call c call).catalog

-- two places without a stream
abbrev catalog_after : List CatCall → Catalog
catalog_after calls = fold after (free 1 ∷ free 5 ∷ []) calls

abbrev told : List CatCall → CatCall → CatTold
told calls call = (catalog_call (catalog_after calls) call).told

abbrev at : ℕ → ℕ → CatTold
at place incarnation = At (Some (record { place = place; incarnation = incarnation }))

abbrev add_a : CatCall
add_a = Add (codes "A") (codes "a.*" ∷ [])

abbrev add_b : CatCall
add_b = Add (codes "B") (codes "b" ∷ [])

abbrev add_c : CatCall
add_c = Add (codes "C") (codes "c" ∷ [])

-- the refusals, by their codes and texts

abbrev name_in_use : CatTold
name_in_use = Refused (refusal 400 10058 (codes "stream name already in use with a different configuration"))

abbrev overlapping : CatTold
overlapping = Refused (refusal 400 20006 (codes "subjects overlap"))

abbrev no_place_free : CatTold
no_place_free = Refused (refusal 503 20007 (codes "no free stream place"))

-- ---- what a catalog begins with

-- a place that kept a stream, and one that kept none
abbrev kept_two : Catalog
kept_two = catalog_of (record { incarnation = 3; stream = Some (codes "A", codes "a.*" ∷ codes "x" ∷ []) } ∷ record { incarnation = 5; stream = None } ∷ [])

begins : kept_two
    ≡ record { incarnation = 3; used = Some (record { name = codes "A"; subjects = codes "a.*" ∷ codes "x" ∷ []; new_subjects = None; stopped = false }) }
    ∷ record { incarnation = 5; used = None } ∷ []
begins = refl

kept_is_found : (catalog_call kept_two (Find (codes "x"))).told ≡ at 0 3
unfolding catalog_call
kept_is_found = refl

none_is_free : (catalog_call kept_two add_b).told ≡ at 1 5
unfolding catalog_call
none_is_free = refl

-- ---- adding

lowest_free : told [] add_a ≡ at 0 1
unfolding catalog_call
lowest_free = refl

next_free : told (add_a ∷ []) add_b ≡ at 1 5
unfolding catalog_call
next_free = refl

-- refusals, in their order: the name, the subjects, the places
name_there : told (add_a ∷ []) (Add (codes "A") (codes "a.b" ∷ [])) ≡ name_in_use
unfolding catalog_call
name_there = refl

overlap : told (add_a ∷ add_b ∷ []) (Add (codes "C") (codes "c" ∷ codes "*.b" ∷ [])) ≡ overlapping
unfolding catalog_call
overlap = refl

no_place : told (add_a ∷ add_b ∷ []) add_c ≡ no_place_free
unfolding catalog_call
no_place = refl

-- a refused Add leaves the catalog as it was
name_there_changes_none : after (catalog_after (add_a ∷ [])) (Add (codes "A") (codes "c" ∷ [])) ≡ catalog_after (add_a ∷ [])
unfolding catalog_call
name_there_changes_none = refl

overlap_changes_none : after (catalog_after (add_a ∷ [])) (Add (codes "B") (codes "a.b" ∷ [])) ≡ catalog_after (add_a ∷ [])
unfolding catalog_call
overlap_changes_none = refl

no_place_changes_none : after (catalog_after (add_a ∷ add_b ∷ [])) add_c ≡ catalog_after (add_a ∷ add_b ∷ [])
unfolding catalog_call
no_place_changes_none = refl

-- ---- looking up

found : told (add_a ∷ add_b ∷ []) (Find (codes "a.x")) ≡ at 0 1
unfolding catalog_call
found = refl

not_found : told (add_a ∷ add_b ∷ []) (Find (codes "c")) ≡ At None
unfolding catalog_call
not_found = refl

named : told (add_a ∷ add_b ∷ []) (ByName (codes "B")) ≡ at 1 5
unfolding catalog_call
named = refl

not_named : told (add_a ∷ add_b ∷ []) (ByName (codes "C")) ≡ At None
unfolding catalog_call
not_named = refl

-- the next used place, from the last one round to the first
next_one : told (add_a ∷ add_b ∷ []) (NextUsed 0) ≡ at 1 5
unfolding catalog_call
next_one = refl

round : told (add_a ∷ add_b ∷ []) (NextUsed 31) ≡ at 0 1
unfolding catalog_call
round = refl

itself : told (add_a ∷ []) (NextUsed 0) ≡ at 0 1
unfolding catalog_call
itself = refl

none_used : told [] (NextUsed 0) ≡ At None
unfolding catalog_call
none_used = refl

-- over a free place
abbrev used_free_used : Catalog
used_free_used = fold after (free 1 ∷ free 2 ∷ free 3 ∷ []) (add_a ∷ add_b ∷ add_c ∷ Remove 1 true ∷ [])

over_free : (catalog_call used_free_used (NextUsed 0)).told ≡ at 2 3
unfolding catalog_call
over_free = refl

from_free : (catalog_call used_free_used (NextUsed 1)).told ≡ at 2 3
unfolding catalog_call
from_free = refl

-- looking up changes nothing
find_asks : after (catalog_after (add_a ∷ [])) (Find (codes "a.x")) ≡ catalog_after (add_a ∷ [])
unfolding catalog_call
find_asks = refl

-- ---- a change of subjects

-- A is to have `c` in place of `a.*`
abbrev opened : List CatCall
opened = add_a ∷ Change 0 (codes "c" ∷ []) ∷ []

-- while it is open both lists count
new_is_found : told opened (Find (codes "c")) ≡ at 0 1
unfolding catalog_call
new_is_found = refl

old_is_found : told opened (Find (codes "a.x")) ≡ at 0 1
unfolding catalog_call
old_is_found = refl

old_overlaps : told opened (Add (codes "C") (codes "a.b" ∷ [])) ≡ overlapping
unfolding catalog_call
old_overlaps = refl

new_overlaps : told opened add_c ≡ overlapping
unfolding catalog_call
new_overlaps = refl

-- and one of them afterwards: the new one
new_kept : told (opened ++ Keep 0 true ∷ []) (Find (codes "c")) ≡ at 0 1
unfolding catalog_call
new_kept = refl

old_dropped : told (opened ++ Keep 0 true ∷ []) (Find (codes "a.x")) ≡ At None
unfolding catalog_call
old_dropped = refl

-- or the old one
old_kept : told (opened ++ Keep 0 false ∷ []) (Find (codes "a.x")) ≡ at 0 1
unfolding catalog_call
old_kept = refl

new_dropped : told (opened ++ Keep 0 false ∷ []) (Find (codes "c")) ≡ At None
unfolding catalog_call
new_dropped = refl

-- then another stream may have the other
old_is_free : told (opened ++ Keep 0 true ∷ []) (Add (codes "B") (codes "a.b" ∷ [])) ≡ at 1 5
unfolding catalog_call
old_is_free = refl

new_is_free : told (opened ++ Keep 0 false ∷ []) add_c ≡ at 1 5
unfolding catalog_call
new_is_free = refl

-- a stream's own subjects are no overlap
own : told (add_a ∷ []) (Change 0 (codes "a.b" ∷ [])) ≡ Done
unfolding catalog_call
own = refl

-- another's old subjects are: the change is refused, and leaves the catalog as it was
abbrev two : List CatCall
two = add_a ∷ add_b ∷ []

meets_old : catalog_call (catalog_after two) (Change 0 (codes "x" ∷ codes "b" ∷ [])) ≡ telling overlapping (catalog_after two)
unfolding catalog_call
meets_old = refl

meets_lower : catalog_call (catalog_after two) (Change 1 (codes "a.x" ∷ [])) ≡ telling overlapping (catalog_after two)
unfolding catalog_call
meets_lower = refl

-- so are its new ones
abbrev two_and_change : List CatCall
two_and_change = two ++ Change 1 (codes "c" ∷ []) ∷ []

meets_new : catalog_call (catalog_after two_and_change) (Change 0 (codes "c" ∷ [])) ≡ telling overlapping (catalog_after two_and_change)
unfolding catalog_call
meets_new = refl

-- and those of a stopped place
abbrev two_and_stop : List CatCall
two_and_stop = two ++ Stop 1 ∷ []

meets_stopped : catalog_call (catalog_after two_and_stop) (Change 0 (codes "b" ∷ [])) ≡ telling overlapping (catalog_after two_and_stop)
unfolding catalog_call
meets_stopped = refl

-- ---- a stream's end

-- a place whose stream was dropped has the next incarnation
dropped : told (add_a ∷ Remove 0 true ∷ []) add_a ≡ at 0 2
unfolding catalog_call
dropped = refl

not_made : told (add_a ∷ Remove 0 false ∷ []) add_a ≡ at 0 1
unfolding catalog_call
not_made = refl

-- ---- a stopped place

-- it keeps its entry, and both of its lists
abbrev stopped : List CatCall
stopped = opened ++ Stop 0 ∷ []

keep_leaves_both : catalog_after (stopped ++ Keep 0 true ∷ []) ≡ catalog_after stopped
unfolding catalog_call
keep_leaves_both = refl

keep_is_done : told stopped (Keep 0 true) ≡ Done
unfolding catalog_call
keep_is_done = refl

old_still_found : told stopped (Find (codes "a.x")) ≡ at 0 1
unfolding catalog_call
old_still_found = refl

new_still_found : told stopped (Find (codes "c")) ≡ at 0 1
unfolding catalog_call
new_still_found = refl

-- and its one list, if it has one
abbrev stopped_b : List CatCall
stopped_b = add_b ∷ Stop 0 ∷ []

change_is_done : told stopped_b (Change 0 (codes "c" ∷ [])) ≡ Done
unfolding catalog_call
change_is_done = refl

change_leaves_one : catalog_after (stopped_b ++ Change 0 (codes "c" ∷ []) ∷ []) ≡ catalog_after stopped_b
unfolding catalog_call
change_leaves_one = refl

change_leaves_both : catalog_after (stopped ++ Change 0 (codes "d" ∷ []) ∷ []) ≡ catalog_after stopped
unfolding catalog_call
change_leaves_both = refl

-- a change is refused there as elsewhere
stopped_meets : told (add_a ∷ add_b ∷ Stop 0 ∷ []) (Change 0 (codes "b" ∷ [])) ≡ overlapping
unfolding catalog_call
stopped_meets = refl

-- its name is there
stopped_name : told stopped_b (Add (codes "B") (codes "c" ∷ [])) ≡ name_in_use
unfolding catalog_call
stopped_name = refl

stopped_named : told stopped_b (ByName (codes "B")) ≡ at 0 1
unfolding catalog_call
stopped_named = refl

-- it is used
stopped_next : told stopped_b (NextUsed 1) ≡ at 0 1
unfolding catalog_call
stopped_next = refl

stopped_is_not_free : told (stopped_b ++ add_a ∷ []) add_c ≡ no_place_free
unfolding catalog_call
stopped_is_not_free = refl

-- removing it frees it, and its mark goes with it
stopped_removed : catalog_after (stopped_b ++ Remove 0 true ∷ add_b ∷ []) ≡ catalog_after (add_a ∷ Remove 0 true ∷ add_b ∷ [])
unfolding catalog_call
stopped_removed = refl

-- ---- out of memory

abbrev is_memory : CatTold → Bool
is_memory NoMemory = true
is_memory _ = false

neither : (b : Bool) (x y : Cataloged) → is_memory x.told ≡ false → is_memory y.told ≡ false → is_memory (if b then x else y).told ≡ false
neither true x y hx hy = hx
neither false x y hx hy = hy

no_added_at : (name : Bytes) (subjects : List Bytes) (c : Catalog) (place : Option PlaceAt) → is_memory (added_at name subjects c place).told ≡ false
no_added_at name subjects c None = refl
no_added_at name subjects c (Some place) = refl

no_added : (name : Bytes) (subjects : List Bytes) (c : Catalog) (refused : Option ApiError) → is_memory (added name subjects c refused).told ≡ false
no_added name subjects c (Some error) = refl
no_added name subjects c None = no_added_at name subjects c (free_place c)

no_call : (c : Catalog) (call : CatCall) → is_memory (catalog_call c call).told ≡ false
unfolding catalog_call
no_call c (Find subject) = refl
no_call c (ByName name) = refl
no_call c (NextUsed after) = refl
no_call c (Add name subjects) = no_added name subjects c (first_refusal (add_checks name subjects c))
no_call c (Change place subjects) =
    neither (overlaps_other place subjects c) (telling (Refused subjects_overlap) c) (telling Done (edited (on_used (changing subjects)) place c)) refl refl
no_call c (Keep place new) = refl
no_call c (Remove place is_dropped) = refl
no_call c (Stop place) = refl

-- a call that is out of memory is one that allocates, and changes nothing
only_where_taken : (c : Catalog) (call : CatCall) (new : Catalog) → IsCatalogCall c call NoMemory new → (new ≡ c) × (may_want call ≡ true)
only_where_taken c call new (inl h) = absurd (false≢true (sym (no_call c call) ∙ ap (λ (done : Cataloged). is_memory done.told) h))
only_where_taken c call new (inr h) = (h.1, h.2)

find_wants_none : (c new : Catalog) (subject : Bytes) → IsCatalogCall c (Find subject) NoMemory new → ⊥
find_wants_none c new subject h = false≢true (only_where_taken c (Find subject) new h).1

name_wants_none : (c new : Catalog) (name : Bytes) → IsCatalogCall c (ByName name) NoMemory new → ⊥
name_wants_none c new name h = false≢true (only_where_taken c (ByName name) new h).1

next_wants_none : (c new : Catalog) (after : ℕ) → IsCatalogCall c (NextUsed after) NoMemory new → ⊥
next_wants_none c new after h = false≢true (only_where_taken c (NextUsed after) new h).1

keep_wants_none : (c new : Catalog) (place : ℕ) (is_new : Bool) → IsCatalogCall c (Keep place is_new) NoMemory new → ⊥
keep_wants_none c new place is_new h = false≢true (only_where_taken c (Keep place is_new) new h).1

remove_wants_none : (c new : Catalog) (place : ℕ) (is_dropped : Bool) → IsCatalogCall c (Remove place is_dropped) NoMemory new → ⊥
remove_wants_none c new place is_dropped h = false≢true (only_where_taken c (Remove place is_dropped) new h).1

stop_wants_none : (c new : Catalog) (place : ℕ) → IsCatalogCall c (Stop place) NoMemory new → ⊥
stop_wants_none c new place h = false≢true (only_where_taken c (Stop place) new h).1

-- the two others may
add_may_want : (c : Catalog) (name : Bytes) (subjects : List Bytes) → IsCatalogCall c (Add name subjects) NoMemory c
add_may_want c name subjects = inr (refl, refl, refl)

change_may_want : (c : Catalog) (place : ℕ) (subjects : List Bytes) → IsCatalogCall c (Change place subjects) NoMemory c
change_may_want c place subjects = inr (refl, refl, refl)

-- The catalog: which place holds which stream, by name and by subjects, by the rule of JetStream's streams that no two share a name or a subject.
use Rattle.std.specs.Prelude.{◌⊎◌, ◌≡◌, ℕ, ◌+◌, Bool, true, false, not, ◌==◌, nat_lt, ◌&&◌, ◌||◌, List, [], ◌∷◌, ◌++◌, map, if◌then◌else◌, Option, Some, None, option_map}
use Rattle.std.specs.List.{list_any}
use Rattle.js_base.specs.Bytes.{Bytes, same}
use Rattle.js_base.specs.Subjects.{tokens, matches, meets}
use Rattle.js_base.specs.declared.out.ApiError.{ApiError}
use Rattle.js_model.specs.declared.desk.PlaceAt.{PlaceAt}
use Rattle.js_model.specs.declared.kept_place.KeptPlace.{KeptPlace}
use Rattle.js_model.specs.Refusals.{Check, first_refusal, other_config, subjects_overlap, no_free_place}

-- ---- what there is

-- a stream at its place: its subjects, those that are to replace them, and whether the place is stopped
pub record Used : Type 0 where
  pub name : Bytes
  pub subjects : List Bytes
  pub new_subjects : Option (List Bytes)
  pub stopped : Bool

-- a place: its kept incarnation, and its stream
pub record Place : Type 0 where
  pub incarnation : ℕ
  pub used : Option Used

-- the places in order of their numbers
abbrev pub Catalog : Type 0
Catalog = List Place

-- a stream that was kept has its one list of subjects, and its place is not stopped
abbrev pub kept_stream : Bytes × List Bytes → Used
kept_stream stream = record { name = stream.0; subjects = stream.1; new_subjects = None; stopped = false }

abbrev pub kept_place : KeptPlace → Place
kept_place kept = record { incarnation = kept.incarnation; used = option_map kept_stream kept.stream }

-- the catalog that begins with what each place kept
abbrev pub catalog_of : List KeptPlace → Catalog
catalog_of places = map kept_place places

-- a place that never had a stream
abbrev pub new_place : Place
new_place = record { incarnation = 1; used = None }

-- what the catalog is asked
pub data CatCall : Type 0 where
  Find : (subject : Bytes) → CatCall
  ByName : (name : Bytes) → CatCall
  NextUsed : (after : ℕ) → CatCall
  Add : (name : Bytes) (subjects : List Bytes) → CatCall
  Change : (place : ℕ) (subjects : List Bytes) → CatCall
  Keep : (place : ℕ) (new : Bool) → CatCall
  Remove : (place : ℕ) (dropped : Bool) → CatCall
  Stop : (place : ℕ) → CatCall

-- what it answers
pub data CatTold : Type 0 where
  Done : CatTold
  At : Option PlaceAt → CatTold
  Refused : ApiError → CatTold
  NoMemory : CatTold

-- ---- looking up

abbrev pub list_or_none : Option (List Bytes) → List Bytes
list_or_none None = []
list_or_none (Some subjects) = subjects

abbrev pub all_subjects : Used → List Bytes
all_subjects u = u.subjects ++ list_or_none u.new_subjects

abbrev pub if_used : (Used → Bool) → Option Used → Bool
if_used test None = false
if_used test (Some u) = test u

abbrev pub is_used : Place → Bool
is_used p = if_used (λ u. true) p.used

-- the first place that passes, counted from n on
abbrev pub first_place : (ℕ → Place → Bool) → ℕ → Catalog → Option PlaceAt
first_place test n [] = None
first_place test n (p ∷ ps) = if test n p then Some (record { place = n; incarnation = p.incarnation }) else first_place test (n + 1) ps

abbrev pub takes_subject : Bytes → Used → Bool
takes_subject subject u = list_any (λ pattern. matches (tokens pattern) (tokens subject)) (all_subjects u)

-- the place whose stream takes the subject
abbrev pub place_for : Bytes → Catalog → Option PlaceAt
place_for subject c = first_place (λ n p. if_used (takes_subject subject) p.used) 0 c

abbrev pub place_named : Bytes → Catalog → Option PlaceAt
place_named name c = first_place (λ n p. if_used (λ u. same u.name name) p.used) 0 c

abbrev pub or_else : Option PlaceAt → Option PlaceAt → Option PlaceAt
or_else None other = other
or_else (Some found) other = Some found

abbrev pub used_above : ℕ → ℕ → Place → Bool
used_above after n p = nat_lt after n && is_used p

-- the next used place in cyclic order: the first one above, or else the first of all
abbrev pub next_used : ℕ → Catalog → Option PlaceAt
next_used after c = or_else (first_place (used_above after) 0 c) (first_place (λ n p. is_used p) 0 c)

abbrev pub free_place : Catalog → Option PlaceAt
free_place c = first_place (λ n p. not (is_used p)) 0 c

-- ---- changing

abbrev pub meets_some : List Bytes → Bytes → Bool
meets_some subjects subject = list_any (λ other. meets (tokens subject) (tokens other)) subjects

abbrev pub meets_used : List Bytes → Used → Bool
meets_used subjects u = list_any (meets_some (all_subjects u)) subjects

-- a subject meets one of a stream at a place that passes, counted from n on
abbrev pub overlaps_at : (ℕ → Bool) → List Bytes → ℕ → Catalog → Bool
overlaps_at test subjects n [] = false
overlaps_at test subjects n (p ∷ ps) = (test n && if_used (meets_used subjects) p.used) || overlaps_at test subjects (n + 1) ps

abbrev pub overlaps : List Bytes → Catalog → Bool
overlaps subjects c = overlaps_at (λ n. true) subjects 0 c

abbrev pub overlaps_other : ℕ → List Bytes → Catalog → Bool
overlaps_other place subjects c = overlaps_at (λ n. not (n == place)) subjects 0 c

-- the catalog with another place of this number
abbrev pub with_place : (Place → Place) → ℕ → ℕ → Catalog → Catalog
with_place edit place n [] = []
with_place edit place n (p ∷ ps) = if n == place then edit p ∷ ps else p ∷ with_place edit place (n + 1) ps

abbrev pub edited : (Place → Place) → ℕ → Catalog → Catalog
edited edit place c = with_place edit place 0 c

abbrev pub edited_used : (Used → Used) → Option Used → Option Used
edited_used edit None = None
edited_used edit (Some u) = Some (edit u)

abbrev pub taken_by : Bytes → List Bytes → Place → Place
taken_by name subjects p = record p { used = Some (record { name = name; subjects = subjects; new_subjects = None; stopped = false }) }

-- the new subjects beside the old ones; a stopped place stays as it is
abbrev pub changing : List Bytes → Used → Used
changing subjects u = if u.stopped then u else record u { new_subjects = Some subjects }

-- one of the two lists, if there are two; a stopped place stays as it is
abbrev pub kept_list : Bool → Used → Option (List Bytes) → Used
kept_list new u None = u
kept_list new u (Some subjects) = record u { subjects = if new then subjects else u.subjects; new_subjects = None }

abbrev pub keeping : Bool → Used → Used
keeping new u = if u.stopped then u else kept_list new u u.new_subjects

-- a free place; one whose stream was dropped has the next incarnation
abbrev pub freed : Bool → Place → Place
freed dropped p = record { incarnation = if dropped then p.incarnation + 1 else p.incarnation; used = None }

abbrev pub stopping : Used → Used
stopping u = record u { stopped = true }

abbrev pub on_used : (Used → Used) → Place → Place
on_used edit p = record p { used = edited_used edit p.used }

-- ---- one call

-- what a call answers and what it leaves
pub record Cataloged : Type 0 where
  pub told : CatTold
  pub catalog : Catalog

abbrev pub telling : CatTold → Catalog → Cataloged
telling told c = record { told = told; catalog = c }

abbrev pub is_there : Option PlaceAt → Bool
is_there None = false
is_there (Some found) = true

-- a name that is there, a subject that meets another's, or no free place
abbrev pub add_checks : Bytes → List Bytes → Catalog → List Check
add_checks name subjects c =
    (is_there (place_named name c), other_config) ∷ (overlaps subjects c, subjects_overlap) ∷ (not (is_there (free_place c)), no_free_place) ∷ []

abbrev pub added_at : Bytes → List Bytes → Catalog → Option PlaceAt → Cataloged
added_at name subjects c None = telling (Refused no_free_place) c
added_at name subjects c (Some free) = telling (At (Some free)) (edited (taken_by name subjects) free.place c)

abbrev pub added : Bytes → List Bytes → Catalog → Option ApiError → Cataloged
added name subjects c (Some e) = telling (Refused e) c
added name subjects c None = added_at name subjects c (free_place c)

abbrev pub changed : ℕ → List Bytes → Catalog → Cataloged
changed place subjects c =
    if overlaps_other place subjects c then telling (Refused subjects_overlap) c else telling Done (edited (on_used (changing subjects)) place c)

unfoldable pub catalog_call : Catalog → CatCall → Cataloged
catalog_call c (Find subject) = telling (At (place_for subject c)) c
catalog_call c (ByName name) = telling (At (place_named name c)) c
catalog_call c (NextUsed after) = telling (At (next_used after c)) c
catalog_call c (Add name subjects) = added name subjects c (first_refusal (add_checks name subjects c))
catalog_call c (Change place subjects) = changed place subjects c
catalog_call c (Keep place new) = telling Done (edited (on_used (keeping new)) place c)
catalog_call c (Remove place dropped) = telling Done (edited (freed dropped) place c)
catalog_call c (Stop place) = telling Done (edited (on_used stopping) place c)

-- the call allocates memory, so it may fail for lack of memory
abbrev pub may_want : CatCall → Bool
may_want (Find subject) = false
may_want (ByName name) = false
may_want (NextUsed after) = false
may_want (Add name subjects) = true
may_want (Change place subjects) = true
may_want (Keep place new) = false
may_want (Remove place dropped) = false
may_want (Stop place) = false

-- the call answers this and leaves this. A call that is out of memory changes nothing
abbrev pub IsCatalogCall : Catalog → CatCall → CatTold → Catalog → Type 0
IsCatalogCall c call told new = (catalog_call c call ≡ telling told new) ⊎ ((told ≡ NoMemory) × (new ≡ c) × (may_want call ≡ true))

-- ---- runs

pub record CatEntry : Type 0 where
  pub seat : ℕ
  pub call : CatCall
  pub told : CatTold

-- the entries lead from old to new
abbrev pub CatRun : Catalog → List CatEntry → Catalog → Type 0
CatRun old [] new = old ≡ new
CatRun old (entry ∷ entries) new = (mid : Catalog) × IsCatalogCall old entry.call entry.told mid × CatRun mid entries new

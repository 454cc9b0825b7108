-- What the entries of the catalog stand for, and what the index knows of them.
use Rattle.std.specs.Prelude.{◌≡◌, ◌⊎◌, ℕ, zero, suc, ◌+◌, ◌*◌, ◌%◌, ◌<◌, ◌^◌, ◌==◌, List, [], ◌∷◌, ◌++◌, Bool, true, not, length, Option, None, Some, option_map, Result, Ok, Err}
use Rattle.std.specs.List.{list_any}
use Rattle.js_base.specs.Bytes.{Bytes}
use Rattle.route_index.specs.declared.sub.Sub.{Sub}
use Rattle.route_index.specs.Subs.{overlapping_ids}
use Rattle.js_model.specs.declared.desk.PlaceAt.{PlaceAt}
use Rattle.js_model.specs.declared.catalog_fault.CatalogFault.{CatalogFault}
use Rattle.js_model.specs.declared.catalog_fault.CatalogFault.TheVariants as faults
use Rattle.js_model.specs.Refusals.{first_refusal}
use Rattle.js_model.specs.Catalog.{Catalog, Used, Place, if_used, is_used, takes_subject, add_checks, free_place}
use Rattle.catalog.specs.declared.entry.Listed.{Listed}
use Rattle.catalog.specs.declared.entry.Stream.{Stream}
use Rattle.catalog.specs.declared.entry.Entry.{Entry}
use Rattle.catalog.specs.declared.entry.Sought.{Sought}
use Rattle.catalog.specs.declared.entry.Sought.TheVariants.{Taker, Among, Free}
use Rattle.catalog.specs.Numbers.{is_of, numbers, numbered, without_numbers}

-- ---- entries

abbrev pub subjects_of : Listed → List Bytes
subjects_of listed = listed.subjects

abbrev pub used_of : Stream → Used
used_of stream = record { name = stream.name; subjects = stream.current.subjects; new_subjects = option_map subjects_of stream.replacing; stopped = stream.stopped }

abbrev pub place_of : Entry → Place
place_of entry = record { incarnation = entry.incarnation; used = option_map used_of entry.used }

-- ---- lists of subjects

abbrev pub second_list : Option Listed → List Listed
second_list None = []
second_list (Some listed) = listed ∷ []

abbrev pub lists_of_stream : Stream → List Listed
lists_of_stream stream = stream.current ∷ second_list stream.replacing

abbrev pub lists_of_used : Option Stream → List Listed
lists_of_used None = []
lists_of_used (Some stream) = lists_of_stream stream

-- its lists of subjects, of which there are at most two
abbrev pub lists_of : Entry → List Listed
lists_of entry = lists_of_used entry.used

-- those of the place of this number
abbrev pub lists_at : List Entry → ℕ → List Listed
lists_at [] n = []
lists_at (e ∷ es) zero = lists_of e
lists_at (e ∷ es) (suc n) = lists_at es n

-- what the index is to know of them
abbrev pub subs_of_lists : List Listed → List Sub
subs_of_lists [] = []
subs_of_lists (l ∷ ls) = numbered l.first l.subjects ++ subs_of_lists ls

-- what the index knows without them
abbrev pub without_lists : List Listed → List Sub → List Sub
without_lists [] subs = subs
without_lists (l ∷ ls) subs = without_lists ls (without_numbers (numbers l.first (length l.subjects)) subs)

-- their numbers fit 64 bits
abbrev pub HaveRoom : List Listed → Type 0
HaveRoom [] = Unit {0}
HaveRoom (l ∷ ls) = (l.first + 32 * length l.subjects < 2 ^ 64) × HaveRoom ls

-- one of two lists is let go of, or none
abbrev pub LeavesList : List Listed → Option Listed → List Listed → Type 0
LeavesList old None new = new ≡ old
LeavesList old (Some l) new = (m : Listed) × (new ≡ m ∷ []) × ((old ≡ l ∷ m ∷ []) ⊎ (old ≡ m ∷ l ∷ []))

-- a place that keeps its incarnation and has no stream
abbrev pub vacant_place : ℕ → Place
vacant_place incarnation = record { incarnation = incarnation; used = None }

-- the place has a stream and is not stopped
abbrev pub is_open : Place → Bool
is_open p = if_used (λ u. not u.stopped) p.used

-- ---- looking up

-- the place of this number is one that is looked for
abbrev pub accepts : Sought → ℕ → Place → Bool
accepts (Taker subject) n place = if_used (takes_subject subject.now) place.used
accepts (Among ids) n place = list_any (is_of n) ids.now
accepts Free n place = not (is_used place)

-- the number is another one than a stream's own, where it has a place already
abbrev pub is_other : Option ℕ → ℕ → Bool
is_other None n = true
is_other (Some own) n = not (n == own)

-- the number is one of such a place
abbrev pub is_of_other : Option ℕ → ℕ → Bool
is_of_other own id = is_other own (id % 32)

-- by what the index knows, the subject meets one of such a place
abbrev pub meets_other : Option ℕ → List Sub → Bytes → Bool
meets_other own subs subject = list_any (is_of_other own) (overlapping_ids subject subs)

-- ---- a check

-- the stream may have the free place, or is refused by the first check that fails
abbrev pub ChecksAdd : Catalog → Bytes → List Bytes → Result PlaceAt CatalogFault → Type 0
ChecksAdd catalog name subjects (Ok free) = (first_refusal (add_checks name subjects catalog) ≡ None) × (free_place catalog ≡ Some free)
ChecksAdd catalog name subjects (Err (faults.Refused error)) = first_refusal (add_checks name subjects catalog) ≡ Some error
ChecksAdd catalog name subjects (Err faults.NoMemory) = Unit {0}

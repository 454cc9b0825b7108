-- The list of the used places follows the places.
use Rattle.std.proofs.Common.{◌≡◌, ℕ, zero, suc, ◌+◌, ◌<◌, ◌==◌, ◌&&◌, Bool, true, false, cond, if◌then◌else◌, List, [], ◌∷◌, ◌++◌, length, map, get_or, replicate, Option, None, Some, refl, sym, ap, ◌∙◌}
use Rattle.std.specs.Prelude.{find, nat_lt}
use Rattle.std.specs.List.{slice_get}
use Rattle.std.proofs.Math.ListN.{set}
use Rattle.js_model.specs.declared.desk.PlaceAt.{PlaceAt}
use Rattle.js_model.specs.Catalog.{Catalog, Place, Used, with_place, edited_used, on_used, is_used, if_used, used_above, first_place, next_used, or_else, new_place}
use Rattle.catalog.specs.declared.entry.Entry.{Entry}
use Rattle.catalog.specs.Entries.{place_of, vacant_place}
use Rattle.catalog.specs.Used.{used_from, used_places, next_of}
use Rattle.catalog.proofs.Catalogs.{edited_set}

abbrev at_number : ℕ → Place → PlaceAt
at_number n p = record { place = n; incarnation = p.incarnation }

-- ---- the next one

abbrev is_above : ℕ → PlaceAt → Bool
is_above after at = nat_lt after at.place

above_one : (after : ℕ) (at : PlaceAt) (rest : List PlaceAt) (later : Option PlaceAt) (b : Bool) → find (is_above after) rest ≡ later
    → find (is_above after) (if b then at ∷ rest else rest) ≡ (if is_above after at && b then Some at else later)
above_one after at rest later true more = go (is_above after at)
  where
    go : (t : Bool) → cond t (Some at) (find (is_above after) rest) ≡ (if t && true then Some at else later)
    go true = refl
    go false = more
above_one after at rest later false more = go (is_above after at)
  where
    go : (t : Bool) → find (is_above after) rest ≡ (if t && false then Some at else later)
    go true = more
    go false = more

above_in : (after n : ℕ) (c : Catalog) → find (is_above after) (used_from n c) ≡ first_place (used_above after) n c
above_in after n [] = refl
above_in after n (p ∷ ps) =
    above_one after (at_number n p) (used_from (n + 1) ps) (first_place (used_above after) (n + 1) ps) (is_used p) (above_in after (n + 1) ps)

first_one : (at : PlaceAt) (rest : List PlaceAt) (later : Option PlaceAt) (b : Bool) → slice_get rest 0 ≡ later → slice_get (if b then at ∷ rest else rest) 0 ≡ (if b then Some at else later)
first_one at rest later true more = refl
first_one at rest later false more = more

first_in : (n : ℕ) (c : Catalog) → slice_get (used_from n c) 0 ≡ first_place (λ n p. is_used p) n c
first_in n [] = refl
first_in n (p ∷ ps) = first_one (at_number n p) (used_from (n + 1) ps) (first_place (λ n p. is_used p) (n + 1) ps) (is_used p) (first_in (n + 1) ps)

pub next_told : (after : ℕ) (c : Catalog) → next_of after (used_places c) ≡ next_used after c
next_told after c =
    ap (λ (found : Option PlaceAt). or_else found (slice_get (used_places c) 0)) (above_in after 0 c)
    ∙ ap (λ (first : Option PlaceAt). or_else (first_place (used_above after) 0 c) first) (first_in 0 c)

-- ---- the same list

still_from : (f : Used → Used) (k n m : ℕ) (c : Catalog) → used_from n (with_place (on_used f) k m c) ≡ used_from n c
still_from f k n m [] = refl
still_from f k n m (p ∷ ps) = go (m == k) (still_from f k (n + 1) (m + 1) ps)
  where
    stays : (o : Option Used) → (if if_used (λ u. true) (edited_used f o) then at_number n p ∷ used_from (n + 1) ps else used_from (n + 1) ps)
        ≡ (if if_used (λ u. true) o then at_number n p ∷ used_from (n + 1) ps else used_from (n + 1) ps)
    stays None = refl
    stays (Some u) = refl

    go : (b : Bool) → used_from (n + 1) (with_place (on_used f) k (m + 1) ps) ≡ used_from (n + 1) ps
        → used_from n (if b then on_used f p ∷ ps else p ∷ with_place (on_used f) k (m + 1) ps) ≡ used_from n (p ∷ ps)
    go true more = stays p.used
    go false more = ap (λ (rest : List PlaceAt). if is_used p then at_number n p ∷ rest else rest) more

-- a stream that changes keeps its place
pub still_used : (f : Used → Used) (es : List Entry) (k : ℕ) (e e' : Entry) → k < length es → e ≡ get_or es k e → place_of e' ≡ on_used f (place_of e)
    → used_places (map place_of es) ≡ used_places (map place_of (set es k e'))
still_used f es k e e' within is made = sym (still_from f k 0 0 (map place_of es)) ∙ ap used_places (edited_set (on_used f) es k e e' within is made)

vacant_from : (n incarnation : ℕ) (c : Catalog) → used_from n (c ++ vacant_place incarnation ∷ []) ≡ used_from n c
vacant_from n incarnation [] = refl
vacant_from n incarnation (p ∷ ps) = ap (λ (rest : List PlaceAt). if is_used p then at_number n p ∷ rest else rest) (vacant_from (n + 1) incarnation ps)

-- a place without a stream at the end
pub vacant_unused : (incarnation : ℕ) (c : Catalog) → used_places (c ++ vacant_place incarnation ∷ []) ≡ used_places c
vacant_unused incarnation c = vacant_from 0 incarnation c

new_from : (n count : ℕ) → used_from n (replicate count new_place) ≡ []
new_from n zero = refl
new_from n (suc count) = new_from (n + 1) count

pub new_unused : (count : ℕ) → used_places (replicate count new_place) ≡ []
new_unused count = new_from 0 count

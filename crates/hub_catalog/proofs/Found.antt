-- A place that a catalog found is one of its places.
use Rattle.std.proofs.Common.{◌≡◌, ◌<◌, ◌+◌, ℕ, suc, Bool, true, false, [], ◌∷◌, length, Option, Some, None, IfSome, inl, inr, refl, sym, ap, subst, ◌∙◌, if◌then◌else◌, arith}
use Rattle.std.specs.Prelude.{IsNone, slice_get}
use Rattle.std.specs.Option.{IsSomeAnd}
use Rattle.std.proofs.lemmas.Option.{slice_get_within}
use Rattle.js_base.specs.Bytes.{Bytes, same}
use Rattle.js_model.specs.declared.desk.PlaceAt.{PlaceAt}
use Rattle.js_model.specs.Catalog.{Catalog, Cataloged, Place, Used, At, Find, ByName, NextUsed, NoMemory, IsCatalogCall, catalog_call, first_place, if_used, is_used, next_used, or_else, place_for, place_named, takes_subject, telling, used_above}
use Rattle.hub_catalog.specs.Lists.{AreSingle, HasOneList, HasSettled, IsSettled}

-- the first place that passes, and its number
pub record Passes (test : ℕ → Place → Bool) (c : Catalog) (at : PlaceAt) : Type 0 where
  pub place : Place
  pub there : slice_get c at.place ≡ Some place
  pub incarnation : place.incarnation ≡ at.incarnation
  pub passes : test at.place place ≡ true

-- the place that was found, counted from n on
record Found (test : ℕ → Place → Bool) (n : ℕ) (c : Catalog) (at : PlaceAt) : Type 0 where
  index : ℕ
  number : at.place ≡ n + index
  place : Place
  there : slice_get c index ≡ Some place
  incarnation : place.incarnation ≡ at.incarnation
  passes : test at.place place ≡ true

found : (test : ℕ → Place → Bool) (n : ℕ) (c : Catalog) (at : PlaceAt) → first_place test n c ≡ Some at → Found test n c at
found test n [] at e = absurd (cc)
found test n (p ∷ ps) at e = by (test n p) refl e (λ (h : first_place test (n + 1) ps ≡ Some at). found test (n + 1) ps at h)
  where
    by : (b : Bool) → test n p ≡ b → (if b then Some (record { place = n; incarnation = p.incarnation }) else first_place test (n + 1) ps) ≡ Some at
        → (first_place test (n + 1) ps ≡ Some at → Found test (n + 1) ps at) → Found test n (p ∷ ps) at
    by true passes h later =
        let same : record { place = n; incarnation = p.incarnation } ≡ at = cc in
        let here : n ≡ at.place = ap (λ (x : PlaceAt). x.place) same in
        record {
          index = 0;
          number = omega (arith, here);
          place = p;
          there = refl;
          incarnation = ap (λ (x : PlaceAt). x.incarnation) same;
          passes = subst (λ (k : ℕ). test k p ≡ true) here passes;
        }
    by false passes h later =
        let f = later h in
        record {
          index = suc f.index;
          number = omega (arith, f.number);
          place = f.place;
          there = f.there;
          incarnation = f.incarnation;
          passes = f.passes;
        }

pub first_passes : (test : ℕ → Place → Bool) (c : Catalog) (at : PlaceAt) → first_place test 0 c ≡ Some at → Passes test c at
first_passes test c at e =
    let f = found test 0 c at e in
    let here : at.place ≡ f.index = omega (arith, f.number) in
    record { place = f.place; there = ap (λ (k : ℕ). slice_get c k) here ∙ f.there; incarnation = f.incarnation; passes = f.passes }

pub first_within : (test : ℕ → Place → Bool) (c : Catalog) (at : PlaceAt) → first_place test 0 c ≡ Some at → at.place < length c
first_within test c at e = let f = first_passes test c at e in slice_get_within c at.place f.place f.there

-- ---- look-ups

answer_is : (c : Catalog) (found told : Option PlaceAt) → telling (At found) c ≡ telling (At told) c → found ≡ told
answer_is c found told e = let same : At found ≡ At told = ap (λ (x : Cataloged). x.told) e in cc

some_within : (test : ℕ → Place → Bool) (c : Catalog) (found told : Option PlaceAt) → first_place test 0 c ≡ found → found ≡ told → IfSome told (λ at. at.place < length c)
some_within test c found None is e = tt
some_within test c found (Some at) is e = first_within test c at (is ∙ e)

pub find_within : (c : Catalog) (subject : Bytes) (told : Option PlaceAt) → catalog_call c (Find subject) ≡ telling (At told) c → IfSome told (λ at. at.place < length c)
unfolding catalog_call
find_within c subject told e = some_within (λ n p. if_used (takes_subject subject) p.used) c (place_for subject c) told refl (answer_is c (place_for subject c) told e)

pub named_is : (c : Catalog) (name : Bytes) (told : Option PlaceAt) → catalog_call c (ByName name) ≡ telling (At told) c → place_named name c ≡ told
unfolding catalog_call
named_is c name told e = answer_is c (place_named name c) told e

pub named_within : (c : Catalog) (name : Bytes) (told : Option PlaceAt) → catalog_call c (ByName name) ≡ telling (At told) c → IfSome told (λ at. at.place < length c)
named_within c name told e = some_within (λ n p. if_used (λ u. same u.name name) p.used) c (place_named name c) told refl (named_is c name told e)

pub next_within : (c : Catalog) (after : ℕ) (told : Option PlaceAt) → catalog_call c (NextUsed after) ≡ telling (At told) c → IfSome told (λ at. at.place < length c)
unfolding catalog_call
next_within c after told e = by (first_place (used_above after) 0 c) refl (answer_is c (next_used after c) told e)
  where
    by : (above : Option PlaceAt) → first_place (used_above after) 0 c ≡ above → or_else above (first_place (λ n p. is_used p) 0 c) ≡ told → IfSome told (λ at. at.place < length c)
    by None is k = some_within (λ n p. is_used p) c (first_place (λ n p. is_used p) 0 c) told refl k
    by (Some at) is k = some_within (used_above after) c (Some at) told is k

-- ---- a stream of a name

settled_if : (at : PlaceAt) (p : Place) (test : Used → Bool) → if_used test p.used ≡ true → HasOneList p → p.incarnation ≡ at.incarnation → IsSettled at p
settled_if at p test passes one known = (by p.used passes one, known)
  where
    by : (used : Option Used) → if_used test used ≡ true → IfSome used (λ u. u.stopped ≡ false → IsNone u.new_subjects) → IsSomeAnd used (λ u. u.stopped ≡ false → IsNone u.new_subjects)
    by None e h = absurd (cc)
    by (Some u) e h = h

named_settled : (c : Catalog) (name : Bytes) (told : Option PlaceAt) → catalog_call c (ByName name) ≡ telling (At told) c → AreSingle c → IfSome told (HasSettled c)
named_settled c name None e single = tt
named_settled c name (Some at) e single =
    let f = first_passes (λ n p. if_used (λ u. same u.name name) p.used) c at (named_is c name (Some at) e) in
    subst (λ (o : Option Place). IsSomeAnd o (IsSettled at)) (sym f.there)
    (settled_if at f.place (λ u. same u.name name) f.passes (single at.place f.place f.there) f.incarnation)

pub answered_settled : (c new : Catalog) (name : Bytes) (told : Option PlaceAt) → IsCatalogCall c (ByName name) (At told) new → new ≡ c → AreSingle c → IfSome told (HasSettled new)
answered_settled c new name told (inr h) same_as single = absurd (let no : At told ≡ NoMemory = h.0 in cc)
answered_settled c new name told (inl e) same_as single =
    subst (λ (d : Catalog). IfSome told (HasSettled d)) (sym same_as)
    (named_settled c name told (subst (λ (d : Catalog). catalog_call c (ByName name) ≡ telling (At told) d) same_as e) single)

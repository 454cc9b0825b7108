-- What a look-up of the catalog finds is one of its places.
use Rattle.std.proofs.Common.{◌≡◌, ◌<◌, ◌+◌, ℕ, suc, Bool, true, false, [], ◌∷◌, length, Option, Some, None, refl, sym, ap, subst, ◌∙◌, if◌then◌else◌, arith}
use Rattle.std.specs.Prelude.{◌==◌, IsNone, IsSome, slice_get}
use Rattle.std.specs.Option.{IsSomeAnd}
use Rattle.std.proofs.lemmas.Option.{slice_get_within}
use Rattle.js_model.specs.declared.desk.PlaceAt.{PlaceAt}
use Rattle.js_model.specs.Catalog.{Catalog, Place, Used, first_place, if_used, with_place}
use Rattle.desk_ground.specs.Grounds.{Knows, IsKnown}
use Rattle.desk_places.specs.declared.turn.Turn.TheVariants.{Outside}
use Rattle.js_desk.specs.Grounds.{AreSingle, HasOneList}

-- the place that was found, counted from n on
pub record Found (test : ℕ → Place → Bool) (n : ℕ) (c : Catalog) (at : PlaceAt) : Type 0 where
  pub index : ℕ
  pub number : at.place ≡ n + index
  pub place : Place
  pub there : slice_get c index ≡ Some place
  pub incarnation : place.incarnation ≡ at.incarnation
  pub passes : test at.place place ≡ true

pub found : (test : ℕ → Place → Bool) (n : ℕ) (c : Catalog) (at : PlaceAt) → first_place test n c ≡ Some at → Found test n c at
found test n [] at e = absurd (cc)
found test n (p ∷ ps) at e = by (test n p) refl e (λ (h : first_place test (n + 1) ps ≡ Some at). found test (n + 1) ps at h)
  where
    by : (b : Bool) → test n p ≡ b → (if b then Some (record { place = n; incarnation = p.incarnation }) else first_place test (n + 1) ps) ≡ Some at
        → (first_place test (n + 1) ps ≡ Some at → Found test (n + 1) ps at) → Found test n (p ∷ ps) at
    by true passes h later =
        let same : record { place = n; incarnation = p.incarnation } ≡ at = cc in
        let here : n ≡ at.place = ap (λ (x : PlaceAt). x.place) same in
        record {
          index = 0;
          number = omega (arith, here);
          place = p;
          there = refl;
          incarnation = ap (λ (x : PlaceAt). x.incarnation) same;
          passes = subst (λ (k : ℕ). test k p ≡ true) here passes;
        }
    by false passes h later =
        let f = later h in
        record {
          index = suc f.index;
          number = omega (arith, f.number);
          place = f.place;
          there = f.there;
          incarnation = f.incarnation;
          passes = f.passes;
        }

pub found_there : (test : ℕ → Place → Bool) (c : Catalog) (at : PlaceAt) (f : Found test 0 c at) → slice_get c at.place ≡ Some f.place
found_there test c at f = let here : at.place ≡ f.index = omega (arith, f.number) in ap (λ (k : ℕ). slice_get c k) here ∙ f.there

pub found_within : (test : ℕ → Place → Bool) (c : Catalog) (at : PlaceAt) → Found test 0 c at → at.place < length c
found_within test c at f = slice_get_within c at.place f.place (found_there test c at f)

used_from : (test : Used → Bool) (used : Option Used) → if_used test used ≡ true → IsSome used
used_from test None e = absurd (cc)
used_from test (Some u) e = refl

single_from : (p : Place) → HasOneList p.used → IsSome p.used → IsSomeAnd p.used (λ u. u.stopped ≡ false → IsNone u.new_subjects)
single_from p one some = by p.used one some
  where
    by : (used : Option Used) → HasOneList used → IsSome used → IsSomeAnd used (λ u. u.stopped ≡ false → IsNone u.new_subjects)
    by None h s = absurd (cc)
    by (Some u) h s = h

-- a look-up of a stream finds a place with one
pub found_known : (test : Used → Bool) (c : Catalog) (at : PlaceAt) → AreSingle Outside c → first_place (λ n p. if_used test p.used) 0 c ≡ Some at → Knows c at
found_known test c at single e =
    let f = found (λ n p. if_used test p.used) 0 c at e in
    let there = found_there (λ n p. if_used test p.used) c at f in
    let used = used_from test f.place.used f.passes in
    subst (λ (o : Option Place). IsSomeAnd o (IsKnown at)) (sym there)
    (record { used = used; single = single_from f.place (single at.place f.place there refl) used; incarnation = f.incarnation })

pub length-with_place : (edit : Place → Place) (place n : ℕ) (c : Catalog) → length (with_place edit place n c) ≡ length c
length-with_place edit place n [] = refl
length-with_place edit place n (p ∷ ps) = by (n == place) (length-with_place edit place (n + 1) ps)
  where
    by : (b : Bool) → length (with_place edit place (n + 1) ps) ≡ length ps → length (if b then edit p ∷ ps else p ∷ with_place edit place (n + 1) ps) ≡ length (p ∷ ps)
    by true rest = refl
    by false rest = ap suc rest

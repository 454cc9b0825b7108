-- A catalog of which one place was edited: what stands at each number.
use Rattle.std.proofs.Common.{◌≡◌, ◌≢◌, ◌+◌, ℕ, zero, suc, Bool, true, false, [], ◌∷◌, length, refl, ap, ◌∙◌, if◌then◌else◌, eq-eqb, arith}
use Rattle.std.specs.Prelude.{◌==◌, option_map, slice_get}
use Rattle.std.proofs.lemmas.Bool.{ne_eqb}
use Rattle.js_model.specs.Catalog.{Catalog, Place, with_place, edited}

module _ (edit : Place → Place) where
  here_from : (place n k : ℕ) (c : Catalog) → place ≡ n + k → slice_get (with_place edit place n c) k ≡ option_map edit (slice_get c k)
  here_from place n k [] is = refl
  here_from place n zero (q ∷ qs) is =
      let hit : n ≡ place = omega (arith, is) in
      ap (λ (b : Bool). slice_get (if b then edit q ∷ qs else q ∷ with_place edit place (n + 1) qs) zero) (eq-eqb n place hit)
  here_from place n (suc k) (q ∷ qs) is =
      let miss : n ≢ place = λ e. omega (arith, e, is) in
      ap (λ (b : Bool). slice_get (if b then edit q ∷ qs else q ∷ with_place edit place (n + 1) qs) (suc k)) (ne_eqb n place miss)
      ∙ here_from place (n + 1) k qs (omega (arith, is))

  other_from : (place n k : ℕ) (c : Catalog) → place ≢ n + k → slice_get (with_place edit place n c) k ≡ slice_get c k
  other_from place n k [] other = refl
  other_from place n zero (q ∷ qs) other =
      let miss : n ≢ place = λ e. other (omega (arith, e)) in
      ap (λ (b : Bool). slice_get (if b then edit q ∷ qs else q ∷ with_place edit place (n + 1) qs) zero) (ne_eqb n place miss)
  other_from place n (suc k) (q ∷ qs) other = by (n == place) (other_from place (n + 1) k qs (λ e. other (omega (arith, e))))
    where
      by : (b : Bool) → slice_get (with_place edit place (n + 1) qs) k ≡ slice_get qs k → slice_get (if b then edit q ∷ qs else q ∷ with_place edit place (n + 1) qs) (suc k) ≡ slice_get qs k
      by true e = refl
      by false e = e

  pub edited_here : (place : ℕ) (c : Catalog) → slice_get (edited edit place c) place ≡ option_map edit (slice_get c place)
  edited_here place c = here_from place 0 place c (omega arith)

  pub edited_other : (place n : ℕ) (c : Catalog) → n ≢ place → slice_get (edited edit place c) n ≡ slice_get c n
  edited_other place n c other = other_from place 0 n c (λ e. other (omega (arith, e)))

  length_from : (place n : ℕ) (c : Catalog) → length (with_place edit place n c) ≡ length c
  length_from place n [] = refl
  length_from place n (q ∷ qs) = by (n == place) (length_from place (n + 1) qs)
    where
      by : (b : Bool) → length (with_place edit place (n + 1) qs) ≡ length qs → length (if b then edit q ∷ qs else q ∷ with_place edit place (n + 1) qs) ≡ length (q ∷ qs)
      by true rest = refl
      by false rest = ap suc rest

  pub length-edited : (place : ℕ) (c : Catalog) → length (edited edit place c) ≡ length c
  length-edited place c = length_from place 0 c

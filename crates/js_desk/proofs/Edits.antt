-- A catalog of which one place was edited: what holds of each place.
use Rattle.std.proofs.Common.{◌≡◌, ◌≢◌, ◌+◌, ℕ, zero, suc, Bool, true, false, [], ◌∷◌, Option, Some, None, refl, sym, ap, subst, ◌∙◌, if◌then◌else◌, arith}
use Rattle.std.specs.Prelude.{◌==◌, slice_get}
use Rattle.std.proofs.lemmas.Bool.{eq-eqb, ne_eqb, eqb-true}
use Rattle.js_model.specs.Catalog.{Catalog, Place, with_place, edited}

module _ (edit : Place → Place) where
  pub edited_there : (place n k : ℕ) (c : Catalog) (p : Place) → place ≡ n + k → slice_get c k ≡ Some p → slice_get (with_place edit place n c) k ≡ Some (edit p)
  edited_there place n k [] p here h = absurd (cc)
  edited_there place n zero (q ∷ qs) p here h =
      let hit : n ≡ place = omega (arith, here) in
      let one : q ≡ p = cc in
      ap (λ (b : Bool). slice_get (if b then edit q ∷ qs else q ∷ with_place edit place (n + 1) qs) zero) (eq-eqb n place hit) ∙ ap (λ (x : Place). Some (edit x)) one
  edited_there place n (suc k) (q ∷ qs) p here h =
      let miss : n ≡ place → ⊥ = λ e. omega (arith, e, here) in
      ap (λ (b : Bool). slice_get (if b then edit q ∷ qs else q ∷ with_place edit place (n + 1) qs) (suc k)) (ne_eqb n place miss)
      ∙ edited_there place (n + 1) k qs p (omega (arith, here)) h

  edited_other : (place n k : ℕ) (c : Catalog) → (place ≡ n + k → ⊥) → slice_get (with_place edit place n c) k ≡ slice_get c k
  edited_other place n k [] other = refl
  edited_other place n zero (q ∷ qs) other =
      let miss : n ≡ place → ⊥ = λ e. other (omega (arith, e)) in
      ap (λ (b : Bool). slice_get (if b then edit q ∷ qs else q ∷ with_place edit place (n + 1) qs) zero) (ne_eqb n place miss)
  edited_other place n (suc k) (q ∷ qs) other = by (n == place) (edited_other place (n + 1) k qs (λ e. other (omega (arith, e))))
    where
      by : (b : Bool) → slice_get (with_place edit place (n + 1) qs) k ≡ slice_get qs k → slice_get (if b then edit q ∷ qs else q ∷ with_place edit place (n + 1) qs) (suc k) ≡ slice_get qs k
      by true e = refl
      by false e = e

  edited_none : (place n k : ℕ) (c : Catalog) → slice_get c k ≡ None → slice_get (with_place edit place n c) k ≡ None
  edited_none place n k [] e = e
  edited_none place n zero (q ∷ qs) e = absurd (cc)
  edited_none place n (suc k) (q ∷ qs) e = by (n == place) (edited_none place (n + 1) k qs e)
    where
      by : (b : Bool) → slice_get (with_place edit place (n + 1) qs) k ≡ None → slice_get (if b then edit q ∷ qs else q ∷ with_place edit place (n + 1) qs) (suc k) ≡ None
      by true f = e
      by false f = f

  -- what held of each place holds of each in another way, if it does so of the one that was edited and of the others
  pub edited_all : (place : ℕ) (c : Catalog) (Old New : ℕ → Place → Type 0) → ((n : ℕ) (p : Place) → slice_get c n ≡ Some p → Old n p) → ((p : Place) → Old place p → New place (edit p))
      → ((n : ℕ) (p : Place) → place ≢ n → Old n p → New n p) → (n : ℕ) (p : Place) → slice_get (edited edit place c) n ≡ Some p → New n p
  edited_all place c Old New each here other n p there = by (place == n) refl
    where
      at : (o : Option Place) → slice_get c n ≡ o → place ≡ n → New n p
      at None none hit =
          absurd (let gone : slice_get (edited edit place c) n ≡ None = edited_none place 0 n c none in cc (gone, there))
      at (Some q) some hit =
          let now : slice_get (edited edit place c) n ≡ Some (edit q) = edited_there place 0 n c q (omega (arith, hit)) some in
          let same : edit q ≡ p = cc (now, there) in
          subst (λ (x : Place). New n x) same (subst (λ (k : ℕ). New k (edit q)) hit (here q (subst (λ (k : ℕ). Old k q) (sym hit) (each n q some))))

      by : (b : Bool) → (place == n) ≡ b → New n p
      by true e = at (slice_get c n) refl (eqb-true place n e)
      by false e =
          let miss : place ≡ n → ⊥ = λ hit. (let yes : (place == n) ≡ true = eq-eqb place n hit in absurd (cc (yes, e))) in
          other n p miss (each n p (sym (edited_other place 0 n c (λ e. miss (omega (arith, e)))) ∙ there))

-- A list of which one element was put.
use Rattle.std.proofs.Common.{◌≡◌, ℕ, zero, suc, List, [], ◌∷◌, length, map, Some, refl, sym, ap}
use Rattle.std.specs.Prelude.{slice_get, slice_set}

module _ {X : Type 0} where
  some_is : (x y : X) → Some x ≡ Some y → x ≡ y
  some_is x y e = cc

  pub set_same : (xs : List X) (i : ℕ) (x : X) → slice_get xs i ≡ Some x → slice_set xs i x ≡ xs
  set_same [] i x h = absurd (cc)
  set_same (y ∷ ys) zero x h = ap (λ (z : X). z ∷ ys) (sym (some_is y x h))
  set_same (y ∷ ys) (suc i) x h = ap (λ (zs : List X). y ∷ zs) (set_same ys i x h)

  pub set_twice : (xs : List X) (i : ℕ) (x y : X) → slice_set (slice_set xs i x) i y ≡ slice_set xs i y
  set_twice [] i x y = refl
  set_twice (z ∷ zs) zero x y = refl
  set_twice (z ∷ zs) (suc i) x y = ap (λ (ws : List X). z ∷ ws) (set_twice zs i x y)

  pub get_set : (xs : List X) (i : ℕ) (x y : X) → slice_get xs i ≡ Some x → slice_get (slice_set xs i y) i ≡ Some y
  get_set [] i x y h = absurd (cc)
  get_set (z ∷ zs) zero x y h = refl
  get_set (z ∷ zs) (suc i) x y h = get_set zs i x y h

  pub get_other : (xs : List X) (i j : ℕ) (y : X) → (i ≡ j → ⊥) → slice_get (slice_set xs i y) j ≡ slice_get xs j
  get_other [] i j y other = refl
  get_other (z ∷ zs) zero zero y other = absurd (other refl)
  get_other (z ∷ zs) zero (suc j) y other = refl
  get_other (z ∷ zs) (suc i) zero y other = refl
  get_other (z ∷ zs) (suc i) (suc j) y other = get_other zs i j y (λ e. other (ap suc e))

  pub length_set : (xs : List X) (i : ℕ) (y : X) → length (slice_set xs i y) ≡ length xs
  length_set [] i y = refl
  length_set (z ∷ zs) zero y = refl
  length_set (z ∷ zs) (suc i) y = ap suc (length_set zs i y)

pub map_set : {X Y : Type 0} (f : X → Y) (xs : List X) (i : ℕ) (y : X) → map f (slice_set xs i y) ≡ slice_set (map f xs) i (f y)
map_set f [] i y = refl
map_set f (z ∷ zs) zero y = refl
map_set f (z ∷ zs) (suc i) y = ap (λ (ws : List _). f z ∷ ws) (map_set f zs i y)

pub map_get : {X Y : Type 0} (f : X → Y) (xs : List X) (i : ℕ) (x : X) → slice_get xs i ≡ Some x → slice_get (map f xs) i ≡ Some (f x)
map_get f [] i x h = absurd (cc)
map_get f (z ∷ zs) zero x h = ap (λ (w : _). Some (f w)) (some_is z x h)
map_get f (z ∷ zs) (suc i) x h = map_get f zs i x h

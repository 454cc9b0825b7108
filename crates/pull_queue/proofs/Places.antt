-- The first of a list that passes, by its place.
use Rattle.std.proofs.Common.{◌≡◌, ℕ, ◌+◌, ◌<◌, ◌≤◌, ◌↔◌, suc, zero, Bool, true, false, cond, ◌||◌, List, [], ◌∷◌, Option, Some, None, length, not, refl, sym, ap, ◌∙◌, arith}
use Rattle.std.specs.Prelude.{nat_lt, find, slice_get, IsSome, OnSome}
use Rattle.std.specs.List.{list_any, position, position_or_len, remove}
use Rattle.std.proofs.lemmas.List.Folds.{find_at}
use Rattle.std.proofs.lemmas.Option.{slice_get_past}
use Rattle.std.proofs.lemmas.Bool.{ltb-true, ltb-false}
use Rattle.js_model.specs.Deliver.{without_first}

-- what a result says if there is one, and there is
pub on_some : {X A B : Type 0} (o : Option X) → OnSome o A → (IsSome o ↔ B) → B → A
on_some (Some x) says is b = says
on_some {X} None says is b = let none : IsSome {T = X} None = is.1 b in cc

module _ {X : Type 0} (p : X → Bool) where
  -- ---- none passes

  past_end : (xs : List X) → None ≡ position p xs → length xs ≤ position_or_len p xs
  past_end xs h = ltb-false (position_or_len p xs) (length xs) (go (nat_lt (position_or_len p xs) (length xs)) h)
    where
      go : (b : Bool) → None ≡ cond b (Some (position_or_len p xs)) None → b ≡ false
      go true k = cc
      go false k = refl

  any_past : (xs : List X) → length xs ≤ position_or_len p xs → list_any p xs ≡ false
  any_past [] l = refl
  any_past (x ∷ xs) l = go (p x) l (any_past xs)
    where
      go : (b : Bool) → suc (length xs) ≤ cond (not b) (1 + position_or_len p xs) 0 → (length xs ≤ position_or_len p xs → list_any p xs ≡ false)
          → (b || list_any p xs) ≡ false
      go true k rest = absurd (omega (arith, k))
      go false k rest = rest (omega (arith, k))

  all_stay : (xs : List X) → list_any p xs ≡ false → without_first p xs ≡ xs
  all_stay [] h = refl
  all_stay (x ∷ xs) h = go (p x) h (all_stay xs)
    where
      go : (b : Bool) → (b || list_any p xs) ≡ false → (list_any p xs ≡ false → without_first p xs ≡ xs)
          → cond b xs (x ∷ without_first p xs) ≡ x ∷ xs
      go true k rest = cc
      go false k rest = ap (λ ys. x ∷ ys) (rest k)

  pub none_any : (xs : List X) → None ≡ position p xs → list_any p xs ≡ false
  none_any xs h = any_past xs (past_end xs h)

  pub none_stays : (xs : List X) → None ≡ position p xs → xs ≡ without_first p xs
  none_stays xs h = sym (all_stay xs (none_any xs h))

  pub none_found : (xs : List X) → None ≡ position p xs → None ≡ find p xs
  none_found xs h = sym (find_at p xs ∙ slice_get_past xs (position_or_len p xs) (past_end xs h))

  -- ---- one passes

  place_is : (xs : List X) (i : ℕ) → Some i ≡ position p xs → (position_or_len p xs < length xs) × (i ≡ position_or_len p xs)
  place_is xs i h = go (nat_lt (position_or_len p xs) (length xs)) refl h
    where
      go : (b : Bool) → nat_lt (position_or_len p xs) (length xs) ≡ b → Some i ≡ cond b (Some (position_or_len p xs)) None
          → (position_or_len p xs < length xs) × (i ≡ position_or_len p xs)
      go true e k = (ltb-true (position_or_len p xs) (length xs) e, cc)
      go false e k = cc

  any_within : (xs : List X) → position_or_len p xs < length xs → list_any p xs ≡ true
  any_within [] l = absurd (omega (arith, l))
  any_within (x ∷ xs) l = go (p x) l (any_within xs)
    where
      go : (b : Bool) → cond (not b) (1 + position_or_len p xs) 0 < suc (length xs) → (position_or_len p xs < length xs → list_any p xs ≡ true)
          → (b || list_any p xs) ≡ true
      go true k rest = refl
      go false k rest = rest (omega (arith, k))

  first_goes : (xs : List X) (i : ℕ) → i < length xs → i ≡ position_or_len p xs → remove xs i ≡ without_first p xs
  first_goes [] i l e = absurd (omega (arith, l))
  first_goes (x ∷ xs) zero l e = go (p x) e
    where
      go : (b : Bool) → 0 ≡ cond (not b) (1 + position_or_len p xs) 0 → xs ≡ cond b xs (x ∷ without_first p xs)
      go true k = refl
      go false k = absurd (omega (arith, k))
  first_goes (x ∷ xs) (suc i) l e = go (p x) e (first_goes xs i (omega (arith, l)))
    where
      go : (b : Bool) → suc i ≡ cond (not b) (1 + position_or_len p xs) 0 → (i ≡ position_or_len p xs → remove xs i ≡ without_first p xs)
          → x ∷ remove xs i ≡ cond b xs (x ∷ without_first p xs)
      go true k rest = absurd (omega (arith, k))
      go false k rest = ap (λ ys. x ∷ ys) (rest (omega (arith, k)))

  pub some_within : (xs : List X) (i : ℕ) → Some i ≡ position p xs → i < length xs
  some_within xs i h = let at = place_is xs i h in omega (arith, at.0, at.1)

  pub some_any : (xs : List X) (i : ℕ) → Some i ≡ position p xs → list_any p xs ≡ true
  some_any xs i h = any_within xs (place_is xs i h).0

  pub some_goes : (xs : List X) (i : ℕ) → Some i ≡ position p xs → remove xs i ≡ without_first p xs
  some_goes xs i h = first_goes xs i (some_within xs i h) (place_is xs i h).1

  pub some_found : (xs : List X) (i : ℕ) → Some i ≡ position p xs → slice_get xs i ≡ find p xs
  some_found xs i h = ap (slice_get xs) (place_is xs i h).1 ∙ sym (find_at p xs)

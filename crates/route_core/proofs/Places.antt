-- The first element that passes a test: it is found, and changed at its place.
use Rattle.std.proofs.Common.{◌≡◌, ℕ, ◌+◌, ◌<◌, ◌≤◌, zero, suc, ◌||◌, Bool, true, false, cond, not, nat_lt, List, [], ◌∷◌, ◌++◌, Option, Some, None, length, get_or, set, take, drop, refl, sym, ap, ◌∙◌, arith}
use Rattle.std.specs.List.{list_any, find, position, prefix_len}
use Rattle.std.proofs.lemmas.List.{take_at}
use Rattle.std.proofs.lemmas.List.Quantifiers.{position-Some}
use Rattle.std.proofs.lemmas.Bool.Decides.{nat_tests}
use Rattle.route_core.specs.Sessions.{with_first}

one_more : (n : ℕ) → 1 + n ≡ suc n
one_more n = omega arith

module _ {X : Type 0} (p : X → Bool) where
  -- the element at this place is the first that passes
  pub record IsFirst (xs : List X) (i : ℕ) (d : X) : Type 0 where
    pub within : i < length xs
    pub passes : p (get_or xs i d) ≡ true
    pub others : (k : ℕ) → k < i → p (get_or xs k d) ≡ false

  pub first_at : (xs : List X) (i : ℕ) (d : X) → position p xs ≡ Some i → IsFirst xs i d
  first_at xs i d h = let k = position-Some p xs i d h in record { within = k.0; passes = k.1; others = k.2 }

  behind : (x : X) (xs : List X) (i : ℕ) (d : X) → IsFirst (x ∷ xs) (suc i) d → IsFirst xs i d
  behind x xs i d h = record { within = omega (arith, h.within); passes = h.passes; others = λ k l. h.others (suc k) (omega arith) }

  pub changed_at : (g : X → X) (xs : List X) (i : ℕ) (d : X) → IsFirst xs i d → set xs i (g (get_or xs i d)) ≡ with_first p g xs
  changed_at g [] i d h = absurd (omega (arith, h.within))
  changed_at g (x ∷ xs) zero d h = ap (λ b. cond b (g x ∷ xs) (x ∷ with_first p g xs)) (sym h.passes)
  changed_at g (x ∷ xs) (suc i) d h =
      ap (λ (ys : List X). x ∷ ys) (changed_at g xs i d (behind x xs i d h)) ∙ ap (λ b. cond b (g x ∷ xs) (x ∷ with_first p g xs)) (sym (h.others 0 (omega arith)))

  pub found_at : (xs : List X) (i : ℕ) (d : X) → IsFirst xs i d → find p xs ≡ Some (get_or xs i d)
  found_at [] i d h = absurd (omega (arith, h.within))
  found_at (x ∷ xs) zero d h = ap (λ b. cond b (Some x) (find p xs)) h.passes
  found_at (x ∷ xs) (suc i) d h = ap (λ b. cond b (Some x) (find p xs)) (h.others 0 (omega arith)) ∙ found_at xs i d (behind x xs i d h)

  pub any_at : (xs : List X) (i : ℕ) (d : X) → IsFirst xs i d → list_any p xs ≡ true
  any_at [] i d h = absurd (omega (arith, h.within))
  any_at (x ∷ xs) zero d h = ap (λ b. b || list_any p xs) h.passes
  any_at (x ∷ xs) (suc i) d h = ap (λ b. b || list_any p xs) (h.others 0 (omega arith)) ∙ any_at xs i d (behind x xs i d h)

  pub length-with_first : (g : X → X) (xs : List X) → length (with_first p g xs) ≡ length xs
  length-with_first g [] = refl
  length-with_first g (x ∷ xs) = go (p x) (length-with_first g xs)
    where
      go : (b : Bool) → length (with_first p g xs) ≡ length xs → length (cond b (g x ∷ xs) (x ∷ with_first p g xs)) ≡ suc (length xs)
      go true h = refl
      go false h = ap suc h

  -- ---- if none passes

  none_before : (n len : ℕ) → cond (nat_lt n len) (Some n) None ≡ None → len ≤ n
  none_before n len h = go (nat_lt n len) refl h
    where
      go : (b : Bool) → nat_lt n len ≡ b → cond b (Some n) None ≡ None → len ≤ n
      go true e k = absurd (cc (k))
      go false e k = grind (arith, nat_tests)

  pub none_passes : (xs : List X) → position p xs ≡ None → length xs ≤ prefix_len (λ x. not (p x)) xs
  none_passes xs h = none_before (prefix_len (λ x. not (p x)) xs) (length xs) h

  pub unchanged : (g : X → X) (xs : List X) → length xs ≤ prefix_len (λ x. not (p x)) xs → xs ≡ with_first p g xs
  unchanged g [] h = refl
  unchanged g (x ∷ xs) h = go (p x) (unchanged g xs) h
    where
      go : (b : Bool) → (length xs ≤ prefix_len (λ x. not (p x)) xs → xs ≡ with_first p g xs) → suc (length xs) ≤ cond (not b) (1 + prefix_len (λ x. not (p x)) xs) 0
          → x ∷ xs ≡ cond b (g x ∷ xs) (x ∷ with_first p g xs)
      go true f l = absurd (omega arith)
      go false f l = ap (λ (ys : List X). x ∷ ys) (f (omega arith))

  pub not_any : (xs : List X) → length xs ≤ prefix_len (λ x. not (p x)) xs → list_any p xs ≡ false
  not_any [] h = refl
  not_any (x ∷ xs) h = go (p x) (not_any xs) h
    where
      go : (b : Bool) → (length xs ≤ prefix_len (λ x. not (p x)) xs → list_any p xs ≡ false) → suc (length xs) ≤ cond (not b) (1 + prefix_len (λ x. not (p x)) xs) 0
          → (b || list_any p xs) ≡ false
      go true f l = absurd (omega arith)
      go false f l = f (omega arith)

  -- ---- as the code finds and changes it, in a slice that was lent

  pub changed_there : (g : X → X) (xs lent : List X) (o : Option ℕ) (i : ℕ) (old new : X) → lent ≡ xs → o ≡ position p lent → o ≡ Some i → old ≡ get_or xs i old → new ≡ g old
      → set xs i new ≡ with_first p g xs
  changed_there g xs lent o i old new same asked found was made =
      ap (set xs i) (made ∙ ap g was) ∙ changed_at g xs i old (first_at xs i old (ap (position p) (sym same) ∙ sym asked ∙ found))

  pub unchanged_there : (g : X → X) (xs lent : List X) (o : Option ℕ) → lent ≡ xs → o ≡ position p lent → o ≡ None → xs ≡ with_first p g xs
  unchanged_there g xs lent o same asked found = unchanged g xs (none_passes xs (ap (position p) (sym same) ∙ sym asked ∙ found))

-- what was made of the elements that a vector lent as a slice is what it has then
pub lent_back : {X : Type 0} (len : ℕ) (xs ys made : List X) → len ≡ length xs → ys ≡ made → length made ≡ length xs → take len (ys ++ drop (length ys) xs) ≡ made
lent_back len xs ys made h e k = take_at ys (drop (length ys) xs) len (ap length e ∙ k ∙ sym h) ∙ e

-- What is left of an ascending list from a number on, step by step.
use Rattle.std.proofs.Common.{◌≡◌, ℕ, ◌+◌, ◌<◌, ◌≤◌, Bool, true, false, ◌||◌, cond, List, [], ◌∷◌, length, refl, sym, ap, ◌∙◌, subst, arith}
use Rattle.std.specs.Prelude.{Some, None, filter, find, nat_le}
use Rattle.std.specs.List.{list_any}
use Rattle.std.proofs.lemmas.Bool.{le-leb, leb-true, lt-leb}
use Rattle.js_model.specs.Lists.{Between}
use Rattle.js_model.proofs.Members.{found_in, here, in_bounds}
use Rattle.js_model.proofs.Named.{none_some, some_is}

module _ {X : Type 0} (f : X → ℕ) where
  abbrev pub rest : ℕ → List X → List X
  rest from xs = filter (λ x. nat_le from (f x)) xs

  -- all stand from there on
  pub rest_all : (from low high : ℕ) (xs : List X) → Between f low high xs → from ≤ low → rest from xs ≡ xs
  rest_all from low high [] h l = refl
  rest_all from low high (x ∷ xs) h l =
      let q : low ≤ f x = h.0 in
      ap (λ b. cond b (x ∷ rest from xs) (rest from xs)) (le-leb from (f x) (omega arith)) ∙ ap (λ (r : List X). x ∷ r) (rest_all from (f x + 1) high xs h.1 (omega arith))

  -- all stand before
  pub rest_past : (from low high : ℕ) (xs : List X) → Between f low high xs → high ≤ from → rest from xs ≡ []
  rest_past from low high [] h l = refl
  rest_past from low high (x ∷ xs) h l =
      let q : f x < high = (in_bounds f low high x (x ∷ xs) h here).1 in
      ap (λ b. cond b (x ∷ rest from xs) (rest from xs)) (lt-leb from (f x) (omega arith)) ∙ rest_past from (f x + 1) high xs h.1 l

  pub rest_none : (from : ℕ) (xs : List X) → find (λ x. nat_le from (f x)) xs ≡ None → rest from xs ≡ []
  rest_none from [] e = refl
  rest_none from (x ∷ xs) e = go (nat_le from (f x)) e (rest_none from xs)
    where
      go : (b : Bool) → cond b (Some x) (find (λ x. nat_le from (f x)) xs) ≡ None → (find (λ x. nat_le from (f x)) xs ≡ None → rest from xs ≡ []) → cond b (x ∷ rest from xs) (rest from xs) ≡ []
      go true k more = absurd (none_some (sym k))
      go false k more = more k

  -- the first of them, and the others
  pub rest_some : (from low high : ℕ) (xs : List X) → Between f low high xs → (first : X) → find (λ x. nat_le from (f x)) xs ≡ Some first → rest from xs ≡ first ∷ rest (f first + 1) xs
  rest_some from low high [] h first e = absurd (none_some e)
  rest_some from low high (x ∷ xs) h first e = go (nat_le from (f x)) refl e (rest_some from (f x + 1) high xs h.1 first)
    where
      go : (b : Bool) → nat_le from (f x) ≡ b → cond b (Some x) (find (λ x. nat_le from (f x)) xs) ≡ Some first → (find (λ x. nat_le from (f x)) xs ≡ Some first → rest from xs ≡ first ∷ rest (f first + 1) xs)
          → cond b (x ∷ rest from xs) (rest from xs) ≡ first ∷ rest (f first + 1) (x ∷ xs)
      go true l k more = subst (λ (z : X). x ∷ rest from xs ≡ z ∷ rest (f z + 1) (x ∷ xs)) (some_is k) (ap (λ (r : List X). x ∷ r) (same ∙ sym own))
        where
          all : (n : ℕ) → n ≤ f x + 1 → rest n xs ≡ xs
          all n q = rest_all n (f x + 1) high xs h.1 q

          same : rest from xs ≡ xs
          same = let q : from ≤ f x = leb-true from (f x) l in all from (omega arith)

          own : rest (f x + 1) (x ∷ xs) ≡ xs
          own = ap (λ b. cond b (x ∷ rest (f x + 1) xs) (rest (f x + 1) xs)) (lt-leb (f x + 1) (f x) (omega arith)) ∙ all (f x + 1) (omega arith)
      go false l k more =
          let q : f x + 1 ≤ f first = (in_bounds f (f x + 1) high first xs h.1 (found_in (λ x. nat_le from (f x)) first xs k).0).0 in
          more k ∙ sym (ap (λ b. first ∷ cond b (x ∷ rest (f first + 1) xs) (rest (f first + 1) xs)) (lt-leb (f first + 1) (f x) (omega arith)))

  pub found_within : (high : ℕ) (xs : List X) → Between f 0 high xs → (from : ℕ) (first : X) → find (λ x. nat_le from (f x)) xs ≡ Some first → (from ≤ f first) × (f first < high)
  found_within high xs ascending from first found = let w = found_in (λ x. nat_le from (f x)) first xs found in (leb-true from (f first) w.1, (in_bounds f 0 high first xs ascending w.0).1)

  -- ---- whether some passes

  -- it is as it is of the rest
  pub record IsSearched (t : X → Bool) (xs : List X) (from : ℕ) : Type 0 where
    pub ahead : list_any t xs ≡ list_any t (rest from xs)

  module _ (t : X → Bool) (high : ℕ) (xs : List X) (ascending : Between f 0 high xs) where
    pub search_starts : IsSearched t xs 0
    search_starts = record { ahead = sym (ap (list_any t) (rest_all 0 0 high xs ascending (omega arith))) }

    module _ (from : ℕ) (walk : IsSearched t xs from) where
      pub search_past : high ≤ from → list_any t xs ≡ false
      search_past l = walk.ahead ∙ ap (list_any t) (rest_past from 0 high xs ascending l)

      pub search_none : find (λ x. nat_le from (f x)) xs ≡ None → list_any t xs ≡ false
      search_none e = walk.ahead ∙ ap (list_any t) (rest_none from xs e)

      module _ (first : X) (found : find (λ x. nat_le from (f x)) xs ≡ Some first) where
        search_step : list_any t xs ≡ (t first || list_any t (rest (f first + 1) xs))
        search_step = walk.ahead ∙ ap (list_any t) (rest_some from 0 high xs ascending first found)

        pub search_found : t first ≡ true → list_any t xs ≡ true
        search_found e = search_step ∙ ap (λ b. b || list_any t (rest (f first + 1) xs)) e

        pub search_on : t first ≡ false → IsSearched t xs (f first + 1)
        search_on e = record { ahead = search_step ∙ ap (λ b. b || list_any t (rest (f first + 1) xs)) e }

  -- ---- how many pass

  -- so many were counted, and the rest is to be
  pub record IsCounted (t : X → Bool) (xs : List X) (count from : ℕ) : Type 0 where
    pub sum : count + length (filter t (rest from xs)) ≡ length (filter t xs)

  module _ (t : X → Bool) (high : ℕ) (xs : List X) (ascending : Between f 0 high xs) where
    pub count_starts : IsCounted t xs 0 0
    count_starts = record {
      sum = let k : length (filter t (rest 0 xs)) ≡ length (filter t xs) = ap (λ (r : List X). length (filter t r)) (rest_all 0 0 high xs ascending (omega arith)) in omega arith;
    }

    module _ (count from : ℕ) (walk : IsCounted t xs count from) where
      pub count_past : high ≤ from → count ≡ length (filter t xs)
      count_past l = let k : length (filter t (rest from xs)) ≡ 0 = ap (λ (r : List X). length (filter t r)) (rest_past from 0 high xs ascending l) in let s : count + length (filter t (rest from xs)) ≡ length (filter t xs) = walk.sum in omega arith

      pub count_none : find (λ x. nat_le from (f x)) xs ≡ None → count ≡ length (filter t xs)
      count_none e = let k : length (filter t (rest from xs)) ≡ 0 = ap (λ (r : List X). length (filter t r)) (rest_none from xs e) in let s : count + length (filter t (rest from xs)) ≡ length (filter t xs) = walk.sum in omega arith

      pub count_on : (first : X) → find (λ x. nat_le from (f x)) xs ≡ Some first → (weight : ℕ) → weight ≡ cond (t first) 1 0 → IsCounted t xs (count + weight) (f first + 1)
      count_on first found weight e = record { sum = omega (arith, step, walk.sum) }
        where
          after : ℕ
          after = length (filter t (rest (f first + 1) xs))

          one : (b : Bool) → length (cond b (first ∷ filter t (rest (f first + 1) xs)) (filter t (rest (f first + 1) xs))) ≡ cond b 1 0 + after
          one true = omega arith
          one false = omega arith

          step : length (filter t (rest from xs)) ≡ weight + length (filter t (rest (f first + 1) xs))
          step = ap (λ (r : List X). length (filter t r)) (rest_some from 0 high xs ascending first found) ∙ one (t first) ∙ ap (λ n. n + after) (sym e)

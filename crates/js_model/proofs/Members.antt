-- Members of lists, and what is found by its number in an ascending list.
use Rattle.std.proofs.Common.{◌≡◌, ℕ, zero, suc, ◌+◌, ◌<◌, ◌≤◌, Bool, true, false, ◌&&◌, ◌||◌, cond, List, [], ◌∷◌, ◌++◌, length, get_or, refl, sym, ap, ◌∙◌, subst, arith, ◌⊎◌, inl, inr}
use Rattle.std.specs.Prelude.{Some, None, filter, find, Contains, ◌==◌, All}
use Rattle.std.specs.List.{list_any}
use Rattle.std.proofs.lemmas.Bool.{true≢false, or_cases, or_left, or_right, eqb-true, and_parts, or_parts}
use Rattle.std.proofs.lemmas.List.Elements.{All-head, All-tail, All-contains_itself}
use Rattle.js_model.specs.Lists.{Between, IsPart, keep, none, skip}
use Rattle.js_model.proofs.Parts.{between_bounds, none_below}
use Rattle.js_model.proofs.Named.{none_some, some_is}

-- x is in the list
pub data IsIn {X : Type 0} : X → List X → Type 0 where
  here : {x : X} {xs : List X} → IsIn x (x ∷ xs)
  there : {x y : X} {xs : List X} → IsIn x xs → IsIn x (y ∷ xs)

in_at : {X : Type 0} (xs : List X) (x : X) (k : ℕ) → k < length xs → get_or xs k x ≡ x → IsIn x xs
in_at [] x k l e = absurd (omega arith)
in_at (y ∷ ys) x zero l e = subst (λ z. IsIn z (y ∷ ys)) e here
in_at (y ∷ ys) x (suc k) l e = there (in_at ys x k (omega arith) e)

pub in_from_contains : {X : Type 0} (xs : List X) (x : X) → Contains xs x → IsIn x xs
in_from_contains xs x (k, l, e) = in_at xs x k l e

-- the first, or one of the others
pub in_cons : {X : Type 0} {x y : X} {xs : List X} → IsIn x (y ∷ xs) → (y ≡ x) ⊎ IsIn x xs
in_cons here = inl refl
in_cons (there h) = inr h

pub in_filter : {X : Type 0} (t : X → Bool) (x : X) (xs : List X) → IsIn x (filter t xs) → IsIn x xs × (t x ≡ true)
in_filter t x [] h = elim h [ ]
in_filter {X} t x (y ∷ ys) h = go (t y) refl (in_filter t x ys) h
  where
    go : (b : Bool) → t y ≡ b → (IsIn x (filter t ys) → IsIn x ys × (t x ≡ true)) → IsIn x (cond b (y ∷ filter t ys) (filter t ys)) → IsIn x (y ∷ ys) × (t x ≡ true)
    go true e f k = cases (in_cons k)
      where
        cases : (y ≡ x) ⊎ IsIn x (filter t ys) → IsIn x (y ∷ ys) × (t x ≡ true)
        cases (inl q) = subst (λ (z : X). IsIn z (y ∷ ys) × (t z ≡ true)) q (here, e)
        cases (inr q) = let w = f q in (there w.0, w.1)
    go false e f k = let w = f k in (there w.0, w.1)

pub in_part : {X : Type 0} {x : X} {ys xs : List X} → IsPart ys xs → IsIn x ys → IsIn x xs
in_part none h = h
in_part (keep p) here = here
in_part (keep p) (there h) = there (in_part p h)
in_part (skip p) h = there (in_part p h)

pub all_in : {X : Type 0} (P : X → Type 0) {x : X} (xs : List X) → All P xs → IsIn x xs → P x
all_in P [] h k = elim k [ ]
all_in P (y ∷ ys) h here = All-head P y ys h
all_in P (y ∷ ys) h (there k) = all_in P ys (All-tail P y ys h) k

pub contains_from_in : {X : Type 0} (xs : List X) (x : X) → IsIn x xs → Contains xs x
contains_from_in xs x h = all_in (Contains xs) xs (All-contains_itself xs) h

pub any_in : {X : Type 0} (t : X → Bool) (x : X) (xs : List X) → IsIn x xs → t x ≡ true → list_any t xs ≡ true
any_in t x [] k e = elim k [ ]
any_in t x (y ∷ ys) here e = or_left (t y) (list_any t ys) e
any_in t x (y ∷ ys) (there k) e = or_right (t y) (list_any t ys) (any_in t x ys k e)

pub in_any : {X : Type 0} (t : X → Bool) (xs : List X) → list_any t xs ≡ true → (x : X) × IsIn x xs × (t x ≡ true)
in_any t [] h = absurd (true≢false (sym h))
in_any {X} t (x ∷ xs) h = go (t x) refl (in_any t xs) h
  where
    go : (b : Bool) → t x ≡ b → (list_any t xs ≡ true → (y : X) × IsIn y xs × (t y ≡ true)) → (b || list_any t xs) ≡ true → (y : X) × IsIn y (x ∷ xs) × (t y ≡ true)
    go true e f k = (x, here, e)
    go false e f k = let w = f k in (w.0, there w.1, w.2)

pub in_push : {X : Type 0} {x : X} (xs ys : List X) → IsIn x xs → IsIn x (xs ++ ys)
in_push [] ys h = elim h [ ]
in_push (x ∷ xs) ys here = here
in_push (y ∷ xs) ys (there h) = there (in_push xs ys h)

later : {X : Type 0} {x : X} (xs ys : List X) (y : X) → IsIn x xs ⊎ IsIn x ys → IsIn x (y ∷ xs) ⊎ IsIn x ys
later xs ys y (inl k) = inl (there k)
later xs ys y (inr k) = inr k

pub in_append : {X : Type 0} {x : X} (xs ys : List X) → IsIn x (xs ++ ys) → IsIn x xs ⊎ IsIn x ys
in_append [] ys h = inr h
in_append (x ∷ xs) ys here = inl here
in_append (y ∷ xs) ys (there h) = later xs ys y (in_append xs ys h)

pub in_bounds : {X : Type 0} (f : X → ℕ) (low high : ℕ) (x : X) (xs : List X) → Between f low high xs → IsIn x xs → (low ≤ f x) × (f x < high)
in_bounds f low high x [] h k = elim k [ ]
in_bounds f low high x (y ∷ ys) h here = (h.0, let q : f x + 1 ≤ high = between_bounds f (f x + 1) high ys h.1 in omega arith)
in_bounds f low high x (y ∷ ys) h (there k) = let w = in_bounds f (f y + 1) high x ys h.1 k in (let q : low ≤ f y = h.0 in let r : f y + 1 ≤ f x = w.0 in omega arith, w.1)

-- ---- ascending lists have one element of a number

-- what holds of some element of the number holds of this one
pub holds_of_one : {X : Type 0} (f : X → ℕ) (t : X → Bool) (low high : ℕ) (x : X) (xs : List X) → Between f low high xs → IsIn x xs → list_any (λ y. f y == f x && t y) xs ≡ true → t x ≡ true
holds_of_one f t low high x [] h k e = elim k [ ]
holds_of_one f t low high x (y ∷ ys) h here e = go (or_cases (f x == f x && t x) (list_any (λ y. f y == f x && t y) ys) e)
  where
    go : ((f x == f x && t x) ≡ true) ⊎ (list_any (λ y. f y == f x && t y) ys ≡ true) → t x ≡ true
    go (inl k) = (and_parts _ _ k).1
    go (inr k) = absurd (true≢false (sym k ∙ none_below f t (f x) (f x + 1) high ys h.1 (omega arith)))
holds_of_one f t low high x (y ∷ ys) h (there k) e = go (λ q. holds_of_one f t (f y + 1) high x ys h.1 k q) (or_cases (f y == f x && t y) (list_any (λ z. f z == f x && t z) ys) e)
  where
    go : (list_any (λ z. f z == f x && t z) ys ≡ true → t x ≡ true) → ((f y == f x && t y) ≡ true) ⊎ (list_any (λ z. f z == f x && t z) ys ≡ true) → t x ≡ true
    go r (inl q) = let w : f y ≡ f x = eqb-true (f y) (f x) (and_parts _ _ q).0 in let b : f y + 1 ≤ f x = (in_bounds f (f y + 1) high x ys h.1 k).0 in absurd (omega arith)
    go r (inr q) = r q

-- what is found by its number is the one of which something holds
pub find_one : {X : Type 0} (f : X → ℕ) (t : X → Bool) (n low high : ℕ) (xs : List X) → Between f low high xs → list_any (λ x. f x == n && t x) xs ≡ true → (x : X) × (find (λ x. f x == n) xs ≡ Some x) × (t x ≡ true) × (f x ≡ n)
find_one f t n low high [] h e = absurd (true≢false (sym e))
find_one {X} f t n low high (x ∷ xs) h e = go (f x == n) refl (find_one f t n (f x + 1) high xs h.1) e
  where
    go : (b : Bool) → (f x == n) ≡ b → (list_any (λ x. f x == n && t x) xs ≡ true → (y : X) × (find (λ x. f x == n) xs ≡ Some y) × (t y ≡ true) × (f y ≡ n)) → ((b && t x) || list_any (λ x. f x == n && t x) xs) ≡ true
        → (y : X) × (cond b (Some x) (find (λ x. f x == n) xs) ≡ Some y) × (t y ≡ true) × (f y ≡ n)
    go true q r k = own (t x) refl k
      where
        own : (c : Bool) → t x ≡ c → (c || list_any (λ x. f x == n && t x) xs) ≡ true → (y : X) × (Some x ≡ Some y) × (t y ≡ true) × (f y ≡ n)
        own true w g = (x, refl, w, eqb-true (f x) n q)
        own false w g = absurd (true≢false (sym g ∙ none_below f t n (f x + 1) high xs h.1 (let z : f x ≡ n = eqb-true (f x) n q in omega arith)))
    go false q r k = r k

-- what is found is in the list, and passes
pub found_in : {X : Type 0} (t : X → Bool) (x : X) (xs : List X) → find t xs ≡ Some x → IsIn x xs × (t x ≡ true)
found_in t x [] e = absurd (none_some e)
found_in {X} t x (y ∷ ys) e = go (t y) refl (found_in t x ys) e
  where
    go : (b : Bool) → t y ≡ b → (find t ys ≡ Some x → IsIn x ys × (t x ≡ true)) → cond b (Some y) (find t ys) ≡ Some x → IsIn x (y ∷ ys) × (t x ≡ true)
    go true q r k = subst (λ (z : X). IsIn z (y ∷ ys) × (t z ≡ true)) (some_is k) (here, q)
    go false q r k = let w = r k in (there w.0, w.1)

-- a number that is not there is not found
pub find_none : {X : Type 0} (t : X → Bool) (xs : List X) → list_any t xs ≡ false → find t xs ≡ None
find_none t [] e = refl
find_none t (x ∷ xs) e = ap (λ (b : Bool). cond b (Some x) (find t xs)) (or_parts _ _ e).0 ∙ find_none t xs (or_parts _ _ e).1

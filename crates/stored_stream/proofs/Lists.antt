-- Filters, look-ups and ascending numbers.
use Rattle.std.proofs.Common.{◌≡◌, ℕ, ◌+◌, ◌<◌, ◌≤◌, ◌==◌, ◌&&◌, ◌||◌, Bool, true, false, cond, not, List, [], ◌∷◌, ◌++◌, Some, map, refl, sym, ap, ◌∙◌, arith}
use Rattle.std.specs.Prelude.{All, filter, find}
use Rattle.std.proofs.lemmas.Bool.{eqb-true, ne_eqb}
use Rattle.std.proofs.lemmas.Bool.Decides.{nat_tests}
use Rattle.std.proofs.lemmas.List.Elements.{All-head, All-tail}
use Rattle.js_base.specs.Bytes.{Bytes, same}
use Rattle.js_base.proofs.Meeting.{same_is, same_self}
use Rattle.js_model.specs.Lists.{Ascends}

-- ---- texts

pub same_flip : (a b : Bytes) → same a b ≡ same b a
same_flip a b = go (same a b) refl (same b a) refl
  where
    go : (c : Bool) → same a b ≡ c → (d : Bool) → same b a ≡ d → c ≡ d
    go true e true f = refl
    go true e false f = sym (same_self a) ∙ ap (λ (x : Bytes). same x a) (same_is a b e) ∙ f
    go false e true f = sym e ∙ ap (λ (x : Bytes). same a x) (same_is b a f) ∙ same_self a
    go false e false f = refl

-- ---- tests

pub or_false : (b : Bool) → (b || false) ≡ b
or_false true = refl
or_false false = refl

pub and_true : (b : Bool) → b ≡ (b && true)
and_true true = refl
and_true false = refl

pub eq_flip : (m n : ℕ) → (m == n) ≡ (n == m)
eq_flip m n = grind (arith, nat_tests)

-- ---- filters

module _ {X : Type 0} where
  pub filter_swap : (p q : X → Bool) (xs : List X) → filter p (filter q xs) ≡ filter q (filter p xs)
  filter_swap p q [] = refl
  filter_swap p q (x ∷ xs) = go (p x) refl (q x) refl (filter_swap p q xs)
    where
      go : (b : Bool) → p x ≡ b → (c : Bool) → q x ≡ c → filter p (filter q xs) ≡ filter q (filter p xs)
          → filter p (cond c (x ∷ filter q xs) (filter q xs)) ≡ filter q (cond b (x ∷ filter p xs) (filter p xs))
      go true e true f h = rw (e, f) (ap (λ (ys : List X). x ∷ ys) h)
      go true e false f h = rw f h
      go false e true f h = rw e h
      go false e false f h = h

  -- what all pass keeps all
  pub filter_all : (p : X → Bool) (xs : List X) → All (λ x. p x ≡ true) xs → filter p xs ≡ xs
  filter_all p [] h = refl
  filter_all p (x ∷ xs) h =
      rw (All-head (λ y. p y ≡ true) x xs h) (ap (λ (ys : List X). x ∷ ys) (filter_all p xs (All-tail (λ y. p y ≡ true) x xs h)))

  pub filter-map : {Y : Type 0} (f : Y → X) (p : X → Bool) (ys : List Y) → filter p (map f ys) ≡ map f (filter (λ y. p (f y)) ys)
  filter-map f p [] = refl
  filter-map {Y} f p (y ∷ ys) = go (p (f y)) (filter-map f p ys)
    where
      go : (b : Bool) → filter p (map f ys) ≡ map f (filter (λ z. p (f z)) ys)
          → cond b (f y ∷ filter p (map f ys)) (filter p (map f ys)) ≡ map f (cond b (y ∷ filter (λ z. p (f z)) ys) (filter (λ z. p (f z)) ys))
      go true h = ap (λ (zs : List X). f y ∷ zs) h
      go false h = h

-- ---- ascending numbers

pub ascends_lower : (low high : ℕ) (ns : List ℕ) → low ≤ high → Ascends high ns → Ascends low ns
ascends_lower low high [] l h = tt
ascends_lower low high (n ∷ ns) l h = (let q : high ≤ n = h.0 in omega arith, h.1)

pub ascends_push : (low n : ℕ) (ns : List ℕ) → low ≤ n → Ascends low ns → All (λ k. k < n) ns → Ascends low (ns ++ n ∷ [])
ascends_push low n [] l h above = (l, tt)
ascends_push low n (k ∷ ns) l h above =
    let q : k < n = All-head (λ i. i < n) k ns above in
    (h.0, ascends_push (k + 1) n ns (omega arith) h.1 (All-tail (λ i. i < n) k ns above))

module _ {X : Type 0} (f : X → ℕ) where
  pub ascends_filter : (p : X → Bool) (low : ℕ) (xs : List X) → Ascends low (map f xs) → Ascends low (map f (filter p xs))
  ascends_filter p low [] h = tt
  ascends_filter p low (x ∷ xs) h = go (p x) (ascends_filter p (f x + 1) xs h.1)
    where
      go : (b : Bool) → Ascends (f x + 1) (map f (filter p xs)) → Ascends low (map f (cond b (x ∷ filter p xs) (filter p xs)))
      go true k = (h.0, k)
      go false k = ascends_lower low (f x + 1) (map f (filter p xs)) (let q : low ≤ f x = h.0 in omega arith) k

  -- a number below them is none of theirs
  pub ascends_apart : (n low : ℕ) (xs : List X) → n < low → Ascends low (map f xs) → filter (λ x. not (f x == n)) xs ≡ xs
  ascends_apart n low [] l h = refl
  ascends_apart n low (x ∷ xs) l h =
      let q : low ≤ f x = h.0 in
      rw (ne_eqb (f x) n (omega arith)) (ap (λ (ys : List X). x ∷ ys) (ascends_apart n (f x + 1) xs (omega arith) h.1))

  -- without the one of a number, what passes a test that this one fails stays as it was
  pub filter_one_less : (p : X → Bool) (n low : ℕ) (x : X) (xs : List X) → Ascends low (map f xs) → find (λ y. f y == n) xs ≡ Some x → p x ≡ false → filter p (filter (λ y. not (f y == n)) xs) ≡ filter p xs
  filter_one_less p n low x [] h found fails = refl
  filter_one_less p n low x (y ∷ xs) h found fails = go (f y == n) refl found (filter_one_less p n (f y + 1) x xs h.1)
    where
      rest : List X
      rest = filter (λ z. not (f z == n)) xs

      go : (b : Bool) → (f y == n) ≡ b → cond b (Some y) (find (λ z. f z == n) xs) ≡ Some x → (find (λ z. f z == n) xs ≡ Some x → p x ≡ false → filter p rest ≡ filter p xs) → filter p (cond (not b) (y ∷ rest) rest) ≡ cond (p y) (y ∷ filter p xs) (filter p xs)
      go true e here more =
          let is : y ≡ x = cc in
          let no : p y ≡ false = ap p is ∙ fails in
          rw no (ap (filter p) (ascends_apart n (f y + 1) xs (let z : f y ≡ n = eqb-true (f y) n e in omega arith) h.1))
      go false e there more = ap (λ (ys : List X). cond (p y) (y ∷ ys) ys) (more there fails)

-- Rising numbers are told apart by which numbers they are.
use Rattle.std.proofs.Common.{◌≡◌, ℕ, ◌<◌, ◌≤◌, ◌==◌, ◌||◌, Bool, true, false, cond, List, [], ◌∷◌, refl, sym, ap, subst, ◌∙◌, arith, inl, inr, eqb}
use Rattle.std.specs.List.{AllByRecursion, dedup, dedup_from}
use Rattle.std.specs.List.Sorted.{IsStrictlySortedBy}
use Rattle.std.specs.Ordering.{nat_cmp}
use Rattle.std.specs.Prelude.{nat_lt}
use Rattle.std.specs.declared.cmp.Ordering.TheVariants.{Less, Equal, Greater}
use Rattle.std.proofs.lemmas.Bool.{eqb-true, ne_eqb, true≢false}
use Rattle.std.proofs.lemmas.Bool.Decides.{eqb_tells, leb_tells}
use borrow.Author.Tests.{ltb-true}
use Rattle.js_base.specs.Bytes.{has}

pub less_is : (x y : ℕ) → nat_cmp x y ≡ Less → x < y
less_is x y h = go (nat_lt x y) (x == y) refl h
  where
    go : (a b : Bool) → nat_lt x y ≡ a → cond a Less (cond b Equal Greater) ≡ Less → x < y
    go true b e k = ltb-true x y e
    go false true e k = absurd (cc (k))
    go false false e k = absurd (cc (k))

abbrev Above : ℕ → List ℕ → Type 0
Above x ys = AllByRecursion (λ y. nat_cmp x y ≡ Less) ys

not_there : (x n : ℕ) (ys : List ℕ) → Above x ys → n ≤ x → has ys n ≡ false
not_there x n [] h k = refl
not_there x n (y ∷ ys) h k =
    let below = less_is x y h.0 in
    ap (λ b. b || has ys n) (ne_eqb y n (λ e. omega (arith, e))) ∙ not_there x n ys h.1 k

there : (x : ℕ) (ys : List ℕ) → has (x ∷ ys) x ≡ true
there x ys = elim (eqb_tells x x) [ inl h ↦ ap (λ b. b || has ys x) h.0 | inr h ↦ absurd (h.1 refl) ]

lower : (x y : ℕ) (xs ys : List ℕ) → Above y ys → ((n : ℕ) → has (x ∷ xs) n ≡ has (y ∷ ys) n) → x < y → ⊥
lower x y xs ys h same h' = true≢false (sym (there x xs) ∙ same x ∙ ap (λ b. b || has ys x) (ne_eqb y x (λ e. omega (arith, e))) ∙ not_there y x ys h (omega arith))

firsts : (x y : ℕ) (xs ys : List ℕ) → Above x xs → Above y ys → ((n : ℕ) → has (x ∷ xs) n ≡ has (y ∷ ys) n) → x ≡ y
firsts x y xs ys h k same = elim (eqb_tells x y) [
  | inl e ↦ e.1
  | inr e ↦ elim (leb_tells x y) [
    | inl f ↦ absurd (lower x y xs ys k same (omega (arith, e.1, f.1)))
    | inr f ↦ absurd (lower y x ys xs h (λ n. sym (same n)) f.1)
  ]
]

tails : (x : ℕ) (xs ys : List ℕ) → Above x xs → Above x ys → ((n : ℕ) → has (x ∷ xs) n ≡ has (x ∷ ys) n) → (n : ℕ) → has xs n ≡ has ys n
tails x xs ys h k same n = elim (eqb_tells x n) [
  | inl e ↦ not_there x n xs h (omega (arith, e.1)) ∙ sym (not_there x n ys k (omega (arith, e.1)))
  | inr e ↦ sym (ap (λ b. b || has xs n) e.0) ∙ same n ∙ ap (λ b. b || has ys n) e.0
]

pub same_rising : (xs ys : List ℕ) → IsStrictlySortedBy nat_cmp xs → IsStrictlySortedBy nat_cmp ys → ((n : ℕ) → has xs n ≡ has ys n) → xs ≡ ys
unfolding IsStrictlySortedBy
same_rising [] [] h k same = refl
same_rising [] (y ∷ ys) h k same = absurd (true≢false (sym (there y ys) ∙ sym (same y)))
same_rising (x ∷ xs) [] h k same = absurd (true≢false (sym (there x xs) ∙ same x))
same_rising (x ∷ xs) (y ∷ ys) h k same = go (firsts x y xs ys h.0 k.0 same) (λ others. same_rising xs ys h.1 k.1 others)
  where
    go : x ≡ y → (((n : ℕ) → has xs n ≡ has ys n) → xs ≡ ys) → x ∷ xs ≡ y ∷ ys
    go e more =
        let P : ℕ → Type 0 = λ z. Above z ys in
        let Q : ℕ → Type 0 = λ z. (n : ℕ) → has (x ∷ xs) n ≡ has (z ∷ ys) n in
        let rest = more (tails x xs ys h.0 (subst P (sym e) k.0) (subst Q (sym e) same)) in
        cc (e, rest)

-- ---- what `dedup` keeps

twice : (a b : Bool) → (a || (a || b)) ≡ (a || b)
twice true b = refl
twice false b = refl

dedup_from_has : (k : ℕ) (xs : List ℕ) (n : ℕ) → has (dedup_from eqb k xs) n ≡ has (k ∷ xs) n
dedup_from_has k [] n = refl
dedup_from_has k (x ∷ xs) n = go (eqb x k) refl (dedup_from_has k xs n) (dedup_from_has x xs n)
  where
    go : (b : Bool) → eqb x k ≡ b → has (dedup_from eqb k xs) n ≡ has (k ∷ xs) n → has (dedup_from eqb x xs) n ≡ has (x ∷ xs) n
        → has (cond b (dedup_from eqb k xs) (k ∷ dedup_from eqb x xs)) n ≡ has (k ∷ x ∷ xs) n
    go true e f g = f ∙ sym (twice (k == n) (has xs n)) ∙ ap (λ m. (k == n) || ((m == n) || has xs n)) (sym (eqb-true x k e))
    go false e f g = ap (λ b. (k == n) || b) g

pub dedup_has : (xs : List ℕ) (n : ℕ) → has (dedup eqb xs) n ≡ has xs n
dedup_has [] n = refl
dedup_has (x ∷ xs) n = dedup_from_has x xs n

-- Numbers that are equal by one test are so by the other, and tests that always answer the same.
use Rattle.std.proofs.Common.{◌≡◌, ℕ, ◌==◌, ◌||◌, ◌&&◌, Bool, true, false, cond, List, [], ◌∷◌, refl, sym, ap, ◌∙◌, arith, inl, inr, eq-eqb}
use Rattle.std.specs.Prelude.{nat_lt}
use Rattle.std.specs.List.{list_any}
use Rattle.std.specs.Ordering.{nat_cmp, is_eq}
use Rattle.std.specs.declared.cmp.Ordering.TheVariants.{Less, Equal, Greater}
use Rattle.std.specs.BTreeMap.{is_at}
use Rattle.std.proofs.lemmas.Bool.{eqb-true, ne_eqb}
use Rattle.std.proofs.lemmas.Bool.Decides.{eqb_tells}
use borrow.Author.Tests.{ltb-true}
use Rattle.js_base.specs.Bytes.{has}

pub or_false : (b : Bool) → (b || false) ≡ b
or_false true = refl
or_false false = refl

pub and_true : (b : Bool) → (b && true) ≡ b
and_true true = refl
and_true false = refl

pub eq_flip : (m n : ℕ) → (m == n) ≡ (n == m)
eq_flip m n = elim (eqb_tells m n) [
  | inl h ↦ h.0 ∙ sym (eq-eqb n m (sym h.1))
  | inr h ↦ h.0 ∙ sym (ne_eqb n m (λ e. h.1 (sym e)))
]

-- whether numbers compare as equal
pub at_number : (n k : ℕ) → is_at (nat_cmp n) k ≡ (n == k)
at_number n k = go (nat_lt n k) (n == k) refl refl
  where
    go : (a b : Bool) → nat_lt n k ≡ a → (n == k) ≡ b → is_eq (cond a Less (cond b Equal Greater)) ≡ b
    go true true e f =
        let below = ltb-true n k e in
        let same = eqb-true n k f in
        absurd (omega arith)
    go true false e f = refl
    go false true e f = refl
    go false false e f = refl

-- a set's numbers are those of its list
pub has_number : (ns : List ℕ) (n : ℕ) → list_any (is_at (nat_cmp n)) ns ≡ has ns n
has_number [] n = refl
has_number (m ∷ ns) n = ap (λ b. b || list_any (is_at (nat_cmp n)) ns) (at_number n m ∙ eq_flip n m) ∙ ap (λ b. (m == n) || b) (has_number ns n)

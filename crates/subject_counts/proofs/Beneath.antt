-- The subjects that begin with a prefix stand together in the order of their bytes.
use Rattle.std.proofs.Common.{◌≡◌, ◌⊎◌, inl, inr, ℕ, ◌<◌, ◌==◌, ◌&&◌, true, false, [], ◌∷◌, refl, sym, ap, ◌∙◌, arith}
use Rattle.std.specs.Prelude.{nat_eq}
use Rattle.std.specs.List.{starts_with}
use Rattle.std.specs.Ordering.{is_le, is_lt, nat_cmp, ordering_then}
use Rattle.std.specs.declared.cmp.Ordering.TheVariants.{Less, Equal, Greater}
use Rattle.std.specs.Cmp.{nat_cmp_is}
use Rattle.std.specs.Cmp.Lexicographic.{slice_cmp}
use Rattle.std.proofs.lemmas.Bool.{and_left, and_parts, and_right, cases_order, eq-eqb, eqb-true, ne_eqb, true≢false}
use Rattle.js_base.specs.Bytes.{Bytes}

-- ---- two texts by their first bytes

by_less : (x y : ℕ) (xs ys : Bytes) → x < y → slice_cmp nat_cmp (x ∷ xs) (y ∷ ys) ≡ Less
by_less x y xs ys l = ap (λ o. ordering_then o (slice_cmp nat_cmp xs ys)) (sym (nat_cmp_is x y Less l))

by_same : (x y : ℕ) (xs ys : Bytes) → x ≡ y → slice_cmp nat_cmp (x ∷ xs) (y ∷ ys) ≡ slice_cmp nat_cmp xs ys
by_same x y xs ys e = ap (λ o. ordering_then o (slice_cmp nat_cmp xs ys)) (sym (nat_cmp_is x y Equal e))

by_greater : (x y : ℕ) (xs ys : Bytes) → y < x → slice_cmp nat_cmp (x ∷ xs) (y ∷ ys) ≡ Greater
by_greater x y xs ys l = ap (λ o. ordering_then o (slice_cmp nat_cmp xs ys)) (sym (nat_cmp_is x y Greater l))

-- ---- a prefix

-- a text that begins with it does not come before it
pub at_or_after : (prefix text : Bytes) → starts_with nat_eq text prefix ≡ true → is_le (slice_cmp nat_cmp prefix text) ≡ true
at_or_after [] [] h = refl
at_or_after [] (y ∷ text) h = refl
at_or_after (x ∷ prefix) [] h = absurd (true≢false (sym h))
at_or_after (x ∷ prefix) (y ∷ text) h =
    let parts = and_parts (x == y) (starts_with nat_eq text prefix) h in
    ap is_le (by_same x y prefix text (eqb-true x y parts.0)) ∙ at_or_after prefix text parts.1

-- of what comes behind it, nothing begins with it after the first that does not
pub past : (prefix text later : Bytes) → is_le (slice_cmp nat_cmp prefix text) ≡ true → starts_with nat_eq text prefix ≡ false → slice_cmp nat_cmp text later ≡ Less → starts_with nat_eq later prefix ≡ false
past [] text later h k l = absurd (true≢false k)
past (x ∷ prefix) [] later h k l = absurd (true≢false (sym h))
past (x ∷ prefix) (y ∷ text) [] h k l = absurd (true≢false (sym (ap is_lt l)))
past (x ∷ prefix) (y ∷ text) (z ∷ later) h k l = go (cases_order x y) (cases_order y z) (λ f g i. past prefix text later f g i)
  where
    apart : x < z → starts_with nat_eq (z ∷ later) (x ∷ prefix) ≡ false
    apart b = and_left (x == z) (starts_with nat_eq later prefix) (ne_eqb x z (λ e. omega arith))

    go : (x ≡ y) ⊎ ((x < y) ⊎ (y < x)) → (y ≡ z) ⊎ ((y < z) ⊎ (z < y))
        → (is_le (slice_cmp nat_cmp prefix text) ≡ true → starts_with nat_eq text prefix ≡ false → slice_cmp nat_cmp text later ≡ Less → starts_with nat_eq later prefix ≡ false)
        → starts_with nat_eq (z ∷ later) (x ∷ prefix) ≡ false
    go (inr (inr g)) q more = absurd (true≢false (sym h ∙ ap is_le (by_greater x y prefix text g)))
    go p (inr (inr g)) more = absurd (true≢false (sym (ap is_lt (sym (by_greater y z text later g) ∙ l))))
    go (inl e) (inl f) more =
        let differs : starts_with nat_eq text prefix ≡ false = sym (ap (λ b. b && starts_with nat_eq text prefix) (eq-eqb x y e)) ∙ k in
        and_right (x == z) (starts_with nat_eq later prefix) (more (sym (ap is_le (by_same x y prefix text e)) ∙ h) differs (sym (by_same y z text later f) ∙ l))
    go (inl e) (inr (inl g)) more = apart (omega (arith, e, g))
    go (inr (inl g)) (inl f) more = apart (omega (arith, f, g))
    go (inr (inl g)) (inr (inl f)) more = apart (omega (arith, f, g))

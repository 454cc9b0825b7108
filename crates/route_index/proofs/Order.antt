-- The order of texts, byte by byte.
use Rattle.std.proofs.Common.{◌≡◌, ◌⊎◌, inl, inr, ℕ, ◌+◌, ◌<◌, true, false, [], ◌∷◌, ◌++◌, refl, sym, ap, ◌∙◌, arith}
use Rattle.std.specs.Ordering.{nat_cmp, is_gt, ordering_then}
use Rattle.std.specs.declared.cmp.Ordering.TheVariants.{Less, Equal, Greater}
use Rattle.std.specs.Cmp.{nat_cmp_is}
use Rattle.std.specs.Cmp.Lexicographic.{slice_cmp}
use Rattle.std.proofs.lemmas.Bool.{true≢false}
use Rattle.std.proofs.lemmas.Bool.Decides.{eqb_tells, leb_tells}
use Rattle.js_base.specs.Bytes.{Bytes}
use Rattle.route_index.specs.Beneath.{is_after}

-- two texts by their first bytes: the first less, the same, or greater
abbrev Heads : ℕ → ℕ → Bytes → Bytes → Type 0
Heads x y xs ys =
    ((x < y) × (is_after (x ∷ xs) (y ∷ ys) ≡ false))
    ⊎ (((x ≡ y) × (is_after (x ∷ xs) (y ∷ ys) ≡ is_after xs ys)) ⊎ ((y < x) × (is_after (x ∷ xs) (y ∷ ys) ≡ true)))

heads : (x y : ℕ) (xs ys : Bytes) → Heads x y xs ys
heads x y xs ys = elim (eqb_tells x y) [
  | inl e ↦ inr (inl (e.1, ap (λ o. is_gt (ordering_then o (slice_cmp nat_cmp xs ys))) (sym (nat_cmp_is x y Equal e.1))))
  | inr e ↦ elim (leb_tells x y) [
    | inl f ↦ let below : x < y = omega (arith, e.1, f.1) in inl (below, ap (λ o. is_gt (ordering_then o (slice_cmp nat_cmp xs ys))) (sym (nat_cmp_is x y Less below)))
    | inr f ↦ inr (inr (f.1, ap (λ o. is_gt (ordering_then o (slice_cmp nat_cmp xs ys))) (sym (nat_cmp_is x y Greater f.1))))
  ]
]

-- behind the same prefix the rest decides
pub after_behind : (front a b : Bytes) → is_after (front ++ a) (front ++ b) ≡ is_after a b
after_behind [] a b = refl
after_behind (x ∷ front) a b = ap (λ o. is_gt (ordering_then o (slice_cmp nat_cmp (front ++ a) (front ++ b)))) (sym (nat_cmp_is x x Equal refl)) ∙ after_behind front a b

-- what comes after does not come before
pub after_one_way : (a b : Bytes) → is_after a b ≡ true → is_after b a ≡ false
after_one_way [] [] h = refl
after_one_way [] (y ∷ ys) h = absurd (true≢false (sym h))
after_one_way (x ∷ xs) [] h = refl
after_one_way (x ∷ xs) (y ∷ ys) h = elim (heads x y xs ys) [
  | inl l ↦ absurd (true≢false (sym h ∙ l.1))
  | inr (inl e) ↦ go (heads y x ys xs) e.0 (after_one_way xs ys (sym e.1 ∙ h))
  | inr (inr g) ↦ other (heads y x ys xs) g.0
]
  where
    go : Heads y x ys xs → x ≡ y → is_after ys xs ≡ false → is_after (y ∷ ys) (x ∷ xs) ≡ false
    go (inl l) e k = l.1
    go (inr (inl f)) e k = f.1 ∙ k
    go (inr (inr g)) e k = absurd (omega (arith, g.0, e))

    other : Heads y x ys xs → y < x → is_after (y ∷ ys) (x ∷ xs) ≡ false
    other (inl l) e = l.1
    other (inr (inl f)) e = absurd (omega (arith, f.0, e))
    other (inr (inr g)) e = absurd (omega (arith, g.0, e))

pub up_to : (a b c : Bytes) → is_after a b ≡ false → is_after b c ≡ false → is_after a c ≡ false
up_to [] b [] h k = refl
up_to [] b (z ∷ zs) h k = refl
up_to (x ∷ xs) [] c h k = absurd (true≢false h)
up_to (x ∷ xs) (y ∷ ys) [] h k = absurd (true≢false k)
up_to (x ∷ xs) (y ∷ ys) (z ∷ zs) h k = go (heads x y xs ys) (heads y z ys zs) (heads x z xs zs) (λ f g. up_to xs ys zs f g)
  where
    go : Heads x y xs ys → Heads y z ys zs → Heads x z xs zs → (is_after xs ys ≡ false → is_after ys zs ≡ false → is_after xs zs ≡ false) → is_after (x ∷ xs) (z ∷ zs) ≡ false
    go (inr (inr g)) q r more = absurd (true≢false (sym g.1 ∙ h))
    go p (inr (inr g)) r more = absurd (true≢false (sym g.1 ∙ k))
    go p q (inl l) more = l.1
    go (inr (inl e)) (inr (inl f)) (inr (inl g)) more = g.1 ∙ more (sym e.1 ∙ h) (sym f.1 ∙ k)
    go (inl l) (inl m) (inr (inl g)) more = absurd (omega (arith, l.0, m.0, g.0))
    go (inl l) (inr (inl f)) (inr (inl g)) more = absurd (omega (arith, l.0, f.0, g.0))
    go (inr (inl e)) (inl m) (inr (inl g)) more = absurd (omega (arith, e.0, m.0, g.0))
    go (inl l) (inl m) (inr (inr g)) more = absurd (omega (arith, l.0, m.0, g.0))
    go (inl l) (inr (inl f)) (inr (inr g)) more = absurd (omega (arith, l.0, f.0, g.0))
    go (inr (inl e)) (inl m) (inr (inr g)) more = absurd (omega (arith, e.0, m.0, g.0))
    go (inr (inl e)) (inr (inl f)) (inr (inr g)) more = absurd (omega (arith, e.0, f.0, g.0))

-- what comes before a text comes before what does not come before that
pub below_up_to : (a b c : Bytes) → is_after b a ≡ true → is_after b c ≡ false → is_after a c ≡ false
below_up_to a b c h k = up_to a b c (after_one_way b a h) k

-- ---- the next text

pub behind_after : (text : Bytes) (byte : ℕ) → is_after (text ++ byte ∷ []) text ≡ true
behind_after [] byte = refl
behind_after (x ∷ xs) byte = ap (λ o. is_gt (ordering_then o (slice_cmp nat_cmp (xs ++ byte ∷ []) xs))) (sym (nat_cmp_is x x Equal refl)) ∙ behind_after xs byte

first_none : (ys : Bytes) → is_after [] ys ≡ false
first_none [] = refl
first_none (y ∷ ys) = refl

-- nothing stands between a text and the text with a byte 0 behind it
pub only_itself : (text other : Bytes) → is_after text other ≡ false → is_after (text ++ 0 ∷ []) other ≡ true → other ≡ text
only_itself [] [] h k = refl
only_itself [] (y ∷ ys) h k = elim (heads 0 y [] ys) [
  | inl l ↦ absurd (true≢false (sym k ∙ l.1))
  | inr (inl e) ↦ absurd (true≢false (sym k ∙ e.1 ∙ first_none ys))
  | inr (inr g) ↦ absurd (omega (arith, g.0))
]
only_itself (x ∷ xs) [] h k = absurd (true≢false h)
only_itself (x ∷ xs) (y ∷ ys) h k = go (heads x y xs ys) (heads x y (xs ++ 0 ∷ []) ys) (λ f g. only_itself xs ys f g)
  where
    go : Heads x y xs ys → Heads x y (xs ++ 0 ∷ []) ys → (is_after xs ys ≡ false → is_after (xs ++ 0 ∷ []) ys ≡ true → ys ≡ xs) → y ∷ ys ≡ x ∷ xs
    go (inl l) (inl m) more = absurd (true≢false (sym k ∙ m.1))
    go (inl l) (inr (inl f)) more = absurd (omega (arith, l.0, f.0))
    go (inl l) (inr (inr g)) more = absurd (omega (arith, l.0, g.0))
    go (inr (inr g)) q more = absurd (true≢false (sym g.1 ∙ h))
    go (inr (inl e)) (inl m) more = absurd (omega (arith, e.0, m.0))
    go (inr (inl e)) (inr (inr g)) more = absurd (omega (arith, e.0, g.0))
    go (inr (inl e)) (inr (inl f)) more = let same = more (sym e.1 ∙ h) (sym f.1 ∙ k) in cc (same, e.0)

-- a text between others that go on with one byte and with the next goes on with the one byte
pub goes_on : (front more other : Bytes) (byte : ℕ) → is_after (front ++ byte ∷ more) other ≡ false → is_after (front ++ (byte + 1) ∷ []) other ≡ true → (left : Bytes) × (other ≡ front ++ byte ∷ left)
goes_on [] more [] byte h k = absurd (true≢false h)
goes_on [] more (y ∷ ys) byte h k = go (heads byte y more ys) (heads (byte + 1) y [] ys)
  where
    go : Heads byte y more ys → Heads (byte + 1) y [] ys → (left : Bytes) × (y ∷ ys ≡ byte ∷ left)
    go (inr (inr g)) q = absurd (true≢false (sym g.1 ∙ h))
    go (inr (inl e)) q = (ys, ap (λ b. b ∷ ys) (sym e.0))
    go (inl l) (inl m) = absurd (true≢false (sym k ∙ m.1))
    go (inl l) (inr (inl f)) = absurd (true≢false (sym k ∙ f.1 ∙ first_none ys))
    go (inl l) (inr (inr g)) = absurd (omega (arith, l.0, g.0))
goes_on (x ∷ front) more [] byte h k = absurd (true≢false h)
goes_on (x ∷ front) more (y ∷ ys) byte h k = go (heads x y (front ++ byte ∷ more) ys) (heads x y (front ++ (byte + 1) ∷ []) ys) (λ f g. goes_on front more ys byte f g)
  where
    go : Heads x y (front ++ byte ∷ more) ys → Heads x y (front ++ (byte + 1) ∷ []) ys
        → (is_after (front ++ byte ∷ more) ys ≡ false → is_after (front ++ (byte + 1) ∷ []) ys ≡ true → (left : Bytes) × (ys ≡ front ++ byte ∷ left))
        → (left : Bytes) × (y ∷ ys ≡ x ∷ (front ++ byte ∷ left))
    go (inr (inr g)) q deeper = absurd (true≢false (sym g.1 ∙ h))
    go (inl l) (inl m) deeper = absurd (true≢false (sym k ∙ m.1))
    go (inl l) (inr (inl f)) deeper = absurd (omega (arith, l.0, f.0))
    go (inl l) (inr (inr g)) deeper = absurd (omega (arith, l.0, g.0))
    go (inr (inl e)) (inl m) deeper = absurd (omega (arith, e.0, m.0))
    go (inr (inl e)) (inr (inr g)) deeper = absurd (omega (arith, e.0, g.0))
    go (inr (inl e)) (inr (inl f)) deeper = let found = deeper (sym e.1 ∙ h) (sym f.1 ∙ k) in (found.0, (let same = found.1 in let first = e.0 in cc (same, first)))

-- a text that goes on with a byte comes before the one that goes on with the next
pub next_after : (front more : Bytes) (byte : ℕ) → is_after (front ++ (byte + 1) ∷ []) (front ++ byte ∷ more) ≡ true
next_after front more byte = after_behind front ((byte + 1) ∷ []) (byte ∷ more) ∙ go (heads (byte + 1) byte [] more)
  where
    go : Heads (byte + 1) byte [] more → is_after ((byte + 1) ∷ []) (byte ∷ more) ≡ true
    go (inl l) = absurd (omega (arith, l.0))
    go (inr (inl e)) = absurd (omega (arith, e.0))
    go (inr (inr g)) = g.1

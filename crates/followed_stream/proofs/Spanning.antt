-- Spans that are joined, and what is outside of them.
use Rattle.std.proofs.Common.{◌≡◌, ℕ, ◌≤◌, ◌==◌, Bool, true, false, min, max, refl, sym, ap, ◌∙◌, arith}
use Rattle.std.proofs.lemmas.Bool.{true≢false, and_parts, leb-true, le-leb, eqb-true}
use Rattle.followed_stream.specs.Spans.{joined, spans}
use Rattle.followed_stream.specs.declared.span.Span.{Span}

pub spans_first : (a b : Span) (n : ℕ) → spans a n ≡ true → spans (joined a b) n ≡ true
spans_first a b n h =
    let low : a.first ≤ n = leb-true a.first n (and_parts _ _ h).0 in
    let high : n ≤ a.last = leb-true n a.last (and_parts _ _ h).1 in
    rw (le-leb (min a.first b.first) n (omega arith), le-leb n (max a.last b.last) (omega arith)) refl

pub spans_second : (a b : Span) (n : ℕ) → spans b n ≡ true → spans (joined a b) n ≡ true
spans_second a b n h =
    let low : b.first ≤ n = leb-true b.first n (and_parts _ _ h).0 in
    let high : n ≤ b.last = leb-true n b.last (and_parts _ _ h).1 in
    rw (le-leb (min a.first b.first) n (omega arith), le-leb n (max a.last b.last) (omega arith)) refl

outside : (b : Bool) {c : Bool} → c ≡ false → (b ≡ true → c ≡ true) → b ≡ false
outside true e f = absurd (true≢false (sym (f refl) ∙ e))
outside false e f = refl

-- what is outside of both is outside of each
pub outside_first : (a b : Span) (n : ℕ) → spans (joined a b) n ≡ false → spans a n ≡ false
outside_first a b n e = outside (spans a n) e (spans_first a b n)

pub outside_second : (a b : Span) (n : ℕ) → spans (joined a b) n ≡ false → spans b n ≡ false
outside_second a b n e = outside (spans b n) e (spans_second a b n)

pub spans_one : (n : ℕ) → spans (record { first = n; last = n }) n ≡ true
spans_one n = rw (le-leb n n (omega arith)) refl

pub spans_all : (n last : ℕ) → n ≤ last → spans (record { first = 0; last = last }) n ≡ true
spans_all n last l = rw (le-leb 0 n (omega arith), le-leb n last l) refl

-- another number than the only one
pub other_than : (n k : ℕ) → spans (record { first = n; last = n }) k ≡ false → (n == k) ≡ false
other_than n k e = outside (n == k) e (λ q. let is : n ≡ k = eqb-true n k q in ap (λ j. spans (record { first = n; last = n }) j) (sym is) ∙ spans_one n)

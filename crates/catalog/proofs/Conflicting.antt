-- Where no two places conflict, their streams are apart.
use Rattle.std.proofs.Common.{◌≡◌, ◌≢◌, ⊎_elim, ℕ, zero, suc, ◌+◌, ◌<◌, ◌≤◌, Bool, true, false, List, [], ◌∷◌, ◌++◌, append-nil, length, get_or, Option, None, Some, refl, sym, ap, subst, ◌∙◌, arith}
use Rattle.std.specs.Prelude.{option_map}
use Rattle.std.proofs.lemmas.Bool.{cases_lt}
use Rattle.std.proofs.lemmas.Option.{same_Some}
use Rattle.js_base.specs.Bytes.{Bytes, same}
use Rattle.js_model.specs.declared.kept_place.KeptPlace.{KeptPlace}
use Rattle.js_model.specs.Catalog.{Used, catalog_of, kept_stream}
use Rattle.catalog.specs.Apart.{used_at, AreApart, IsApart}
use Rattle.catalog.specs.Conflicts.{AreWithoutConflict, IsFirstBehind, conflict_at, conflicts, kept_at}
use Rattle.catalog.proofs.Meetings.{apart_sym, lists_none, meets_lists, or_parts}

-- ---- the stream at a number

pub kept_used : (places : List KeptPlace) (n : ℕ) → used_at (catalog_of places) n ≡ option_map kept_stream (kept_at places n)
kept_used [] n = refl
kept_used (place ∷ places) zero = refl
kept_used (place ∷ places) (suc n) = kept_used places n

pub kept_there : (places : List KeptPlace) (n : ℕ) (place : KeptPlace) → n < length places → place ≡ get_or places n place → kept_at places n ≡ place.stream
kept_there [] n place within is = let no : ⊥ = omega (arith, within) in absurd no
kept_there (p ∷ places) zero place within is = ap (λ (q : KeptPlace). q.stream) (sym is)
kept_there (p ∷ places) (suc n) place within is = kept_there places n place (omega (arith, within)) is

pub none_past : (places : List KeptPlace) (n : ℕ) → length places ≤ n → kept_at places n ≡ None
none_past [] n past = refl
none_past (p ∷ places) zero past = let no : ⊥ = omega (arith, past) in absurd no
none_past (p ∷ places) (suc n) past = none_past places n (omega (arith, past))

conflicts_none : (one : Option (Bytes × List Bytes)) → conflicts one None ≡ false
conflicts_none None = refl
conflicts_none (Some one) = refl

pub no_conflict_past : (places : List KeptPlace) (m n : ℕ) → length places ≤ n → conflict_at places m n ≡ false
no_conflict_past places m n past = ap (λ (o : Option (Bytes × List Bytes)). conflicts (kept_at places m) o) (none_past places n past) ∙ conflicts_none (kept_at places m)

-- ---- two streams

two_apart : (one other : Option (Bytes × List Bytes)) (a b : Used) → option_map kept_stream one ≡ Some a → option_map kept_stream other ≡ Some b → conflicts one other ≡ false → AreApart a b
two_apart None other a b is_a is_b none = absurd (cc)
two_apart (Some one) None a b is_a is_b none = absurd (cc)
two_apart (Some one) (Some other) a b is_a is_b none =
    let parts = or_parts (same one.0 other.0) (meets_lists one.1 other.1) none in
    subst (λ (u : Used). AreApart u b) (same_Some (kept_stream one) a is_a) (subst (λ (u : Used). AreApart (kept_stream one) u) (same_Some (kept_stream other) b is_b) (record {
      names = parts.0;
      subjects = lists_none one.1 (other.1 ++ []) (ap (λ (ys : List Bytes). meets_lists one.1 ys) (append-nil other.1) ∙ parts.1);
    }))

pub apart_of : (places : List KeptPlace) → AreWithoutConflict places → IsApart (catalog_of places)
apart_of places none = record {
  at = λ m n a b other is_a is_b. ⊎_elim
      (λ lt. two_apart (kept_at places m) (kept_at places n) a b (sym (kept_used places m) ∙ is_a) (sym (kept_used places n) ∙ is_b) (none m n lt))
      (λ le. apart_sym b a (two_apart (kept_at places n) (kept_at places m) b a (sym (kept_used places n) ∙ is_b) (sym (kept_used places m) ∙ is_a) (none n m (below m n other le))))
      (cases_lt m n);
}
  where
    below : (m n : ℕ) → m ≢ n → n ≤ m → n < m
    below m n other le = omega (arith, other, le)

-- ---- the search

pub at_pair : (places : List KeptPlace) (m n : ℕ) (one other : KeptPlace) (b : Bool) → m < length places → n < length places → one ≡ get_or places m one → other ≡ get_or places n other
    → b ≡ conflicts one.stream other.stream → conflict_at places m n ≡ b
at_pair places m n one other b lt less is_one is_other told =
    ap (λ (o : Option (Bytes × List Bytes)). conflicts o (kept_at places n)) (kept_there places m one lt is_one)
    ∙ ap (λ (o : Option (Bytes × List Bytes)). conflicts one.stream o) (kept_there places n other less is_other)
    ∙ sym told

-- none before it conflicts, and it does
pub first_behind : (places : List KeptPlace) (first second : ℕ) → first < second → conflict_at places first second ≡ true
    → ((n : ℕ) → first < n → n < second → conflict_at places first n ≡ false) → IsFirstBehind places first second
first_behind places first second behind is none = record {
  behind = behind;
  conflict = is;
  lowest = λ n lt yes. ⊎_elim (λ before. absurd (cc (none n lt before, yes))) (λ after. after) (cases_lt n second);
}

-- no conflict with those so far nor with the next one
pub none_yet : (places : List KeptPlace) (first second : ℕ) → conflict_at places first second ≡ false → ((n : ℕ) → first < n → n < second → conflict_at places first n ≡ false)
    → (n : ℕ) → first < n → n < second + 1 → conflict_at places first n ≡ false
none_yet places first second other none n lt less = ⊎_elim
    (λ before. none n lt before)
    (λ after. let e : second ≡ n = omega (arith, after, less) in subst (λ (k : ℕ). conflict_at places first k ≡ false) e other)
    (cases_lt n second)

pub none_of : (places : List KeptPlace) (first second : ℕ) → length places ≤ second → ((n : ℕ) → first < n → n < second → conflict_at places first n ≡ false)
    → (n : ℕ) → first < n → conflict_at places first n ≡ false
none_of places first second past none n lt = ⊎_elim (λ before. none n lt before) (λ after. no_conflict_past places first n (omega (arith, past, after))) (cases_lt n second)

pub all_apart : (places : List KeptPlace) (first : ℕ) → length places ≤ first → ((m n : ℕ) → m < first → m < n → conflict_at places m n ≡ false) → IsApart (catalog_of places)
all_apart places first past none = apart_of places (λ m n lt. ⊎_elim (λ before. none m n before lt) (λ after. no_conflict_past places m n (omega (arith, past, after, lt))) (cases_lt m first))

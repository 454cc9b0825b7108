-- Ascending lists of sequences: how they are tested, and searched.
use Rattle.std.proofs.Common.{◌≡◌, ◌≢◌, ℕ, zero, suc, ◌+◌, ◌<◌, ◌≤◌, ◌&&◌, ◌||◌, Bool, true, false, List, [], ◌∷◌, map, length, drop, get_or, Result, Ok, Err, refl, sym, ap, ◌∙◌, arith, nat_le, nat_lt, eq-eqb}
use Rattle.std.specs.Prelude.{◌==◌, MatchResult, is_ok}
use Rattle.std.specs.List.Sorted.{IsSearchInRange, IsBinarySearchResult, IsNonDecreasingBy}
use Rattle.std.specs.Ordering.{nat_cmp, ordering_index}
use Rattle.std.proofs.lemmas.Cmp.{ranked}
use Rattle.std.proofs.lemmas.Bool.{and_parts, ne_eqb, leb-true}
use Rattle.std.proofs.lemmas.Bool.Decides.{nat_tests}
use Rattle.std.proofs.lemmas.List.{at_drop_more, get_or-map, length-map}
use Rattle.js_base.specs.Bytes.{has}
use Rattle.js_model.specs.declared.consumer.Pending.{Pending}
use Rattle.js_model.specs.declared.consumer.Consumer.{Consumer}
use Rattle.js_model.specs.Streams.{pending_seqs}
use Rattle.model_laws.specs.SoundTests.{are_between}
use Rattle.durable_checks.specs.Parts.{Ascend, AreAscending}

abbrev number : ℕ → ℕ
number n = n

-- ---- the test of a list

-- past the end nothing ascends
pub late : (low high : ℕ) (ns : List ℕ) → high < low → are_between number low high ns ≡ false
late low high [] h = grind (arith, nat_tests)
late low high (n ∷ ns) h = go (nat_le low n) refl (λ l. late (n + 1) high ns l)
  where
    go : (b : Bool) → nat_le low n ≡ b → (high < n + 1 → are_between number (n + 1) high ns ≡ false) → (b && are_between number (n + 1) high ns) ≡ false
    go true e rest = rest (let l : low ≤ n = leb-true low n e in omega (arith, h, l))
    go false e rest = refl

pub too_low : (low high n : ℕ) (ns : List ℕ) → n < low → are_between number low high (n ∷ ns) ≡ false
too_low low high n ns h = let e : nat_le low n ≡ false = grind (arith, nat_tests) in ap (λ (b : Bool). b && are_between number (n + 1) high ns) e

pub too_high : (low high n : ℕ) (ns : List ℕ) → high ≤ n → are_between number low high (n ∷ ns) ≡ false
too_high low high n ns h = go (nat_le low n)
  where
    go : (b : Bool) → (b && are_between number (n + 1) high ns) ≡ false
    go true = late (n + 1) high ns (omega (arith, h))
    go false = refl

-- the rest begins too low, or too high
pub low_there : (low high : ℕ) (ns : List ℕ) (k : ℕ) → k < length ns → get_or ns k 0 < low → are_between number low high (drop k ns) ≡ false
low_there low high ns k within below = at_drop_more (are_between number low high) ns k 0 within ∙ too_low low high (get_or ns k 0) (drop (k + 1) ns) below

pub high_there : (low high : ℕ) (ns : List ℕ) (k : ℕ) → k < length ns → high ≤ get_or ns k 0 → are_between number low high (drop k ns) ≡ false
high_there low high ns k within above = at_drop_more (are_between number low high) ns k 0 within ∙ too_high low high (get_or ns k 0) (drop (k + 1) ns) above

-- by a number of each element
pub between_mapped : {X : Type 0} (f : X → ℕ) (low high : ℕ) (xs : List X) → are_between f low high xs ≡ are_between number low high (map f xs)
between_mapped f low high [] = refl
between_mapped f low high (x ∷ xs) = ap (λ (b : Bool). nat_le low (f x) && b) (between_mapped f (f x + 1) high xs)

-- ---- places

low_at : (low high : ℕ) (ns : List ℕ) (j : ℕ) → are_between number low high ns ≡ true → j < length ns → low ≤ get_or ns j 0
low_at low high [] j h l = absurd (omega (arith, l))
low_at low high (n ∷ ns) zero h l = leb-true low n (and_parts (nat_le low n) (are_between number (n + 1) high ns) h).0
low_at low high (n ∷ ns) (suc j) h l =
    let p = and_parts (nat_le low n) (are_between number (n + 1) high ns) h in
    let first = leb-true low n p.0 in
    let rest = low_at (n + 1) high ns j p.1 (omega (arith, l)) in
    omega (arith, first, rest)

pub rises : (low high : ℕ) (ns : List ℕ) (i j : ℕ) → are_between number low high ns ≡ true → i ≤ j → j < length ns → get_or ns i 0 ≤ get_or ns j 0
rises low high [] i j h k l = absurd (omega (arith, l))
rises low high (n ∷ ns) zero zero h k l = omega arith
rises low high (n ∷ ns) zero (suc j) h k l = let rest = low_at (n + 1) high ns j (and_parts (nat_le low n) (are_between number (n + 1) high ns) h).1 (omega (arith, l)) in omega (arith, rest)
rises low high (n ∷ ns) (suc i) zero h k l = absurd (omega (arith, k))
rises low high (n ∷ ns) (suc i) (suc j) h k l = rises (n + 1) high ns i j (and_parts (nat_le low n) (are_between number (n + 1) high ns) h).1 (omega (arith, k)) (omega (arith, l))

has_there : (ns : List ℕ) (i n : ℕ) → i < length ns → get_or ns i 0 ≡ n → has ns n ≡ true
has_there [] i n l e = absurd (omega (arith, l))
has_there (m ∷ ns) zero n l e = ap (λ (b : Bool). b || has ns n) (eq-eqb m n e)
has_there (m ∷ ns) (suc i) n l e = go (m == n) (has_there ns i n (omega (arith, l)) e)
  where
    go : (b : Bool) → has ns n ≡ true → (b || has ns n) ≡ true
    go true h = refl
    go false h = h

has_nowhere : (ns : List ℕ) (n : ℕ) → ((k : ℕ) → k < length ns → get_or ns k 0 ≢ n) → has ns n ≡ false
has_nowhere [] n h = refl
has_nowhere (m ∷ ns) n h = ap (λ (b : Bool). b || has ns n) (ne_eqb m n (h 0 (omega arith))) ∙ has_nowhere ns n (λ k l. h (suc k) (omega (arith, l)))

-- what a binary search answers
pub found : (ns : List ℕ) (n : ℕ) (r : Result ℕ ℕ) → MatchResult r (λ i. (i < length ns) × (get_or ns i 0 ≡ n)) (λ i. (i ≤ length ns) × ((k : ℕ) → k < i → get_or ns k 0 < n) × ((k : ℕ) → i ≤ k → k < length ns → n < get_or ns k 0))
    → MatchResult r (λ i. has ns n ≡ true) (λ i. has ns n ≡ false)
found ns n (Ok i) h = has_there ns i n h.0 h.1
found ns n (Err i) h = has_nowhere ns n (λ k l same. apart k l same (nat_le i k) refl)
  where
    apart : (k : ℕ) → k < length ns → get_or ns k 0 ≡ n → (b : Bool) → nat_le i k ≡ b → ⊥
    apart k l same true e = let more = h.2 k (leb-true i k e) l in absurd (omega (arith, more, same))
    apart k l same false e = let less = h.1 k (grind (arith, nat_tests)) in absurd (omega (arith, less, same))

pub is_ok_has : (ns : List ℕ) (n : ℕ) (r : Result ℕ ℕ) → MatchResult r (λ i. has ns n ≡ true) (λ i. has ns n ≡ false) → is_ok r ≡ has ns n
is_ok_has ns n (Ok i) h = sym h
is_ok_has ns n (Err i) h = sym h

-- ---- entries by their sequences

module _ (entries : List Pending) (n : ℕ) where
  abbrev seq_of : Pending → ℕ
  seq_of p = p.seq

  abbrev sequences : List ℕ
  sequences = map seq_of entries

  abbrev none : Pending
  none = record { seq = 0; count = 0; due = 0 }

  at_entry : (i : ℕ) (d : Pending) → i < length entries → get_or sequences i 0 ≡ (get_or entries i d).seq
  at_entry i d within = get_or-map seq_of entries i d 0 within

  comparisons_rise : Ascend sequences → IsNonDecreasingBy (λ p. ordering_index (nat_cmp p.seq n)) entries
  comparisons_rise ascends i j d le within =
      let up = rises 1 ascends.0 sequences i j ascends.1 le (omega (arith, within, length-map entries seq_of)) in
      let low = at_entry i d (omega (arith, le, within)) in
      let high = at_entry j d within in
      let k : (get_or entries i d).seq ≤ (get_or entries j d).seq = omega (arith, up, low, high) in
      grind (arith, nat_tests)

  -- what a binary search by sequences answers
  pub entry_found : Ascend sequences → (r : Result ℕ ℕ) → IsSearchInRange r (length entries) → IsBinarySearchResult (λ p. nat_cmp p.seq n) entries r → is_ok r ≡ has sequences n
  entry_found ascends (Ok at) within equal =
      let here : (get_or entries at none).seq ≡ n = ranked _ n _ (sym (equal none)) in
      sym (has_there sequences at n (omega (arith, within, length-map entries seq_of)) (at_entry at none within ∙ here))
  entry_found ascends (Err at) within parted = sym (has_nowhere sequences n (λ k l same. apart k (omega (arith, l, length-map entries seq_of)) same))
    where
      apart : (k : ℕ) → k < length entries → get_or sequences k 0 ≡ n → ⊥
      apart k l same = go (nat_lt k at) refl
        where
          there : (get_or entries k none).seq ≡ n
          there = sym (at_entry k none l) ∙ same

          go : (b : Bool) → nat_lt k at ≡ b → ⊥
          go true e =
              let less : (get_or entries k none).seq < n = ranked _ n _ (sym ((parted (comparisons_rise ascends)).0 k none (omega arith) (grind (arith, nat_tests, e)))) in
              omega (arith, less, there)
          go false e =
              let more : n < (get_or entries k none).seq = ranked _ n _ (sym ((parted (comparisons_rise ascends)).1 k none (grind (arith, nat_tests, e)) l)) in
              omega (arith, more, there)

-- ---- the sequences of a consumer

pub pending_ascends : (c : Consumer) → AreAscending c → Ascend (pending_seqs c)
pending_ascends c h =
    let a = and_parts _ _ h.ascending in
    let b = and_parts _ _ a.0 in
    (c.cursor, sym (between_mapped (λ (p : Pending). p.seq) 1 c.cursor c.pending) ∙ b.1)

-- Bytes that are put over others, place by place.
use Rattle.std.proofs.Common.{◌≡◌, ◌⊎◌, inl, inr, zero, suc, ℕ, ◌+◌, ◌-◌, ◌<◌, ◌≤◌, max, min, get_or, List, [], ◌∷◌, ◌++◌, length, take, drop, refl, ◌∙◌, ap, arith, length-append, length-take, length-drop}
use Rattle.std.proofs.lemmas.List.{take_all, drop_all, get_or-take, get_or-drop, get_or_append_left, get_or-append_right, take_at, append-nil}
use Rattle.vol_disk.specs.Steps.{written}

side : (a b : ℕ) → (a ≤ b) ⊎ (b < a)
side a b = grind arith

-- the bytes, with those of a range as they are in an older list
abbrev pub mend : ℕ → ℕ → List ℕ → List ℕ → List ℕ
mend at n old [] = []
mend at n [] (b ∷ bytes) = b ∷ bytes
mend zero zero (a ∷ old) (b ∷ bytes) = b ∷ bytes
mend zero (suc n) (a ∷ old) (b ∷ bytes) = a ∷ mend zero n old bytes
mend (suc at) n (a ∷ old) (b ∷ bytes) = b ∷ mend at n old bytes

pub length-mend : (at n : ℕ) (old bytes : List ℕ) → length (mend at n old bytes) ≡ length bytes
length-mend at n old [] = refl
length-mend at n [] (b ∷ bytes) = refl
length-mend zero zero (a ∷ old) (b ∷ bytes) = refl
length-mend zero (suc n) (a ∷ old) (b ∷ bytes) = omega (arith, length-mend zero n old bytes)
length-mend (suc at) n (a ∷ old) (b ∷ bytes) = omega (arith, length-mend at n old bytes)

pub take-mend : (at n : ℕ) (old bytes : List ℕ) → take at (mend at n old bytes) ≡ take at bytes
take-mend at n old [] = refl
take-mend at n [] (b ∷ bytes) = refl
take-mend zero n (a ∷ old) (b ∷ bytes) = refl
take-mend (suc at) n (a ∷ old) (b ∷ bytes) = ap (λ (l : List ℕ). b ∷ l) (take-mend at n old bytes)

pub drop-mend : (at n to : ℕ) (old bytes : List ℕ) → to ≡ at + n → drop to (mend at n old bytes) ≡ drop to bytes
drop-mend at n to old [] is = refl
drop-mend at n to [] (b ∷ bytes) is = refl
drop-mend zero zero to (a ∷ old) (b ∷ bytes) is = refl
drop-mend zero (suc n) zero (a ∷ old) (b ∷ bytes) is = absurd (omega arith)
drop-mend zero (suc n) (suc to) (a ∷ old) (b ∷ bytes) is = drop-mend zero n to old bytes (omega arith)
drop-mend (suc at) n zero (a ∷ old) (b ∷ bytes) is = absurd (omega arith)
drop-mend (suc at) n (suc to) (a ∷ old) (b ∷ bytes) is = drop-mend at n to old bytes (omega arith)

-- in the range the older bytes stand
pub mend_in : (at n k : ℕ) (old bytes : List ℕ) → at ≤ k → k < at + n → k < length old → k < length bytes →
    get_or (mend at n old bytes) k 0 ≡ get_or old k 0
mend_in at n k old [] low high within there = absurd (omega arith)
mend_in at n k [] (b ∷ bytes) low high within there = absurd (omega arith)
mend_in zero zero k (a ∷ old) (b ∷ bytes) low high within there = absurd (omega arith)
mend_in zero (suc n) zero (a ∷ old) (b ∷ bytes) low high within there = refl
mend_in zero (suc n) (suc k) (a ∷ old) (b ∷ bytes) low high within there =
    mend_in zero n k old bytes (omega arith) (omega arith) (omega arith) (omega arith)
mend_in (suc at) n zero (a ∷ old) (b ∷ bytes) low high within there = absurd (omega arith)
mend_in (suc at) n (suc k) (a ∷ old) (b ∷ bytes) low high within there =
    mend_in at n k old bytes (omega arith) (omega arith) (omega arith) (omega arith)

-- elsewhere the bytes stay
pub mend_out : (at n k : ℕ) (old bytes : List ℕ) → (k < at) ⊎ (at + n ≤ k) →
    get_or (mend at n old bytes) k 0 ≡ get_or bytes k 0
mend_out at n k old [] out = refl
mend_out at n k [] (b ∷ bytes) out = refl
mend_out zero zero k (a ∷ old) (b ∷ bytes) out = refl
mend_out zero (suc n) zero (a ∷ old) (b ∷ bytes) (inl lt) = absurd (omega arith)
mend_out zero (suc n) zero (a ∷ old) (b ∷ bytes) (inr le) = absurd (omega arith)
mend_out zero (suc n) (suc k) (a ∷ old) (b ∷ bytes) (inl lt) = absurd (omega arith)
mend_out zero (suc n) (suc k) (a ∷ old) (b ∷ bytes) (inr le) = mend_out zero n k old bytes (inr (omega arith))
mend_out (suc at) n zero (a ∷ old) (b ∷ bytes) out = refl
mend_out (suc at) n (suc k) (a ∷ old) (b ∷ bytes) (inl lt) = mend_out at n k old bytes (inl (omega arith))
mend_out (suc at) n (suc k) (a ∷ old) (b ∷ bytes) (inr le) = mend_out at n k old bytes (inr (omega arith))

-- what is written stands over its range alone
pub written_out : (at k : ℕ) (bytes old : List ℕ) → at ≤ length old → (k < at) ⊎ (at + length bytes ≤ k) →
    get_or (written at bytes old) k 0 ≡ get_or old k 0
written_out at k bytes old within (inl lt) =
    let front : k < length (take at old) = omega (arith, length-take at old) in
    let most : k < length (take at old ++ bytes) = omega (arith, front, length-append (take at old) bytes) in
    get_or_append_left (take at old ++ bytes) (drop (at + length bytes) old) 0 k most ∙ get_or_append_left (take at old) bytes 0 k front ∙ get_or-take at old k 0 lt
written_out at k bytes old within (inr le) =
    let n : length (take at old ++ bytes) ≡ at + length bytes = omega (arith, length-append (take at old) bytes, length-take at old) in
    let back : (at + length bytes) + (k - (at + length bytes)) ≡ k = omega arith in
    get_or-append_right (take at old ++ bytes) (drop (at + length bytes) old) (at + length bytes) k 0 n le
    ∙ get_or-drop (at + length bytes) old (k - (at + length bytes)) 0
    ∙ ap (λ (i : ℕ). get_or old i 0) back

pub length-written : (at : ℕ) (bytes old : List ℕ) → at ≤ length old → length (written at bytes old) ≡ max (length old) (at + length bytes)
length-written at bytes old within =
    omega (arith, length-append (take at old ++ bytes) (drop (at + length bytes) old), length-append (take at old) bytes, length-take at old, length-drop (at + length bytes) old)

-- the bytes up to a cut, and then those that another list has below a length, or else the bytes
abbrev pub uncut : ℕ → ℕ → List ℕ → List ℕ → List ℕ
uncut to least old bytes = take to bytes ++ drop to (take least old ++ drop least bytes)

length-restored : (least : ℕ) (old bytes : List ℕ) → least ≤ length old → length (take least old ++ drop least bytes) ≡ max least (length bytes)
length-restored least old bytes within =
    omega (arith, length-append (take least old) (drop least bytes), length-take least old, length-drop least bytes)

pub length-uncut : (to least : ℕ) (old bytes : List ℕ) → least ≤ length old → min least to ≤ length bytes →
    length (uncut to least old bytes) ≡ max least (length bytes)
length-uncut to least old bytes within long =
    omega (arith, length-append (take to bytes) (drop to (take least old ++ drop least bytes)), length-take to bytes, length-drop to (take least old ++ drop least bytes), length-restored least old bytes within)

pub take-uncut : (to least : ℕ) (old bytes : List ℕ) → least ≤ length old → min least to ≤ length bytes →
    take to (uncut to least old bytes) ≡ take to bytes
take-uncut to least old bytes within long = elim (side to (length bytes)) [
  | inl le ↦
      let n : length (take to bytes) ≡ to = omega (arith, length-take to bytes) in
      take_at (take to bytes) (drop to (take least old ++ drop least bytes)) to n
  | inr lt ↦
      let none : drop to (take least old ++ drop least bytes) ≡ [] = drop_all to (take least old ++ drop least bytes) (omega (arith, length-restored least old bytes within)) in
      ap (λ (l : List ℕ). take to (take to bytes ++ l)) none ∙ ap (λ (l : List ℕ). take to l) (append-nil (take to bytes)) ∙ take_all to (take to bytes) (omega (arith, length-take to bytes))
]

pub uncut_at : (to least k : ℕ) (old bytes : List ℕ) → least ≤ length old → min least to ≤ length bytes → k < least →
    (k < to → get_or bytes k 0 ≡ get_or old k 0) → get_or (uncut to least old bytes) k 0 ≡ get_or old k 0
uncut_at to least k old bytes within long low same = elim (side to k) [
  | inl le ↦
      let n : length (take to bytes) ≡ to = omega (arith, length-take to bytes) in
      let there : k < length (take least old) = omega (arith, length-take least old) in
      let back : to + (k - to) ≡ k = omega arith in
      get_or-append_right (take to bytes) (drop to (take least old ++ drop least bytes)) to k 0 n le
      ∙ get_or-drop to (take least old ++ drop least bytes) (k - to) 0
      ∙ ap (λ (i : ℕ). get_or (take least old ++ drop least bytes) i 0) back
      ∙ get_or_append_left (take least old) (drop least bytes) 0 k there
      ∙ get_or-take least old k 0 low
  | inr lt ↦
      let front : k < length (take to bytes) = omega (arith, length-take to bytes) in
      get_or_append_left (take to bytes) (drop to (take least old ++ drop least bytes)) 0 k front ∙ get_or-take to bytes k 0 lt ∙ same lt
]

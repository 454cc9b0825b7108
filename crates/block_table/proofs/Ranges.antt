-- How many of a range of files are no blocks.
use Rattle.std.proofs.Common.{◌≡◌, ◌≤◌, ◌<◌, ℕ, zero, suc, ◌+◌, ◌-◌, max, ◌==◌, ◌||◌, Bool, true, false, cond, not, List, [], ◌∷◌, ◌++◌, Some, None, find, length, refl, ap, ◌∙◌, arith, length-append}
use Rattle.std.specs.Prelude.{filter}
use Rattle.std.specs.List.{range_with_len}
use Rattle.std.proofs.lemmas.Bool.{eqb-true}
use Rattle.block_table.specs.declared.block.Block.{Block}
use Rattle.block_table.specs.Blocks.{Blocks, has_block, is_among}
use Rattle.block_table.specs.Placings.{free_from}
use Rattle.block_table.specs.Rooms.{begun_below}
use Rattle.block_table.proofs.Lists.{kept-append}

module _ {X : Type 0} where
  -- where none is found, none passes
  pub none_passing : (t : X → Bool) (xs : List X) → find t xs ≡ None → length (filter t xs) ≡ 0
  none_passing t [] e = refl
  none_passing t (x ∷ xs) e = go (t x) e (none_passing t xs)
    where
      go : (b : Bool) → cond b (Some x) (find t xs) ≡ None → (find t xs ≡ None → length (filter t xs) ≡ 0) → length (cond b (x ∷ filter t xs) (filter t xs)) ≡ 0
      go true h rest = cc
      go false h rest = rest h

  -- one of two tests
  either : (s t : X → Bool) (xs : List X) → length (filter (λ x. s x || t x) xs) ≤ length (filter s xs) + length (filter t xs)
  either s t [] = omega arith
  either s t (x ∷ xs) = go (s x) (t x) (either s t xs)
    where
      go : (a b : Bool) → length (filter (λ y. s y || t y) xs) ≤ length (filter s xs) + length (filter t xs)
          → length (cond (a || b) (x ∷ filter (λ y. s y || t y) xs) (filter (λ y. s y || t y) xs)) ≤ length (cond a (x ∷ filter s xs) (filter s xs)) + length (cond b (x ∷ filter t xs) (filter t xs))
      go true true rest = omega (arith, rest)
      go true false rest = omega (arith, rest)
      go false true rest = omega (arith, rest)
      go false false rest = omega (arith, rest)

-- ---- ranges

-- a number below a range is not in it
none_below : (n from count : ℕ) → n < from → length (filter (λ file. n == file) (range_with_len from count)) ≡ 0
none_below n from zero low = refl
none_below n from (suc count) low = go (n == from) refl (none_below n (from + 1) count (omega (arith, low)))
  where
    go : (b : Bool) → (n == from) ≡ b → length (filter (λ file. n == file) (range_with_len (from + 1) count)) ≡ 0
        → length (cond b (from ∷ filter (λ file. n == file) (range_with_len (from + 1) count)) (filter (λ file. n == file) (range_with_len (from + 1) count))) ≡ 0
    go true e rest = let same = eqb-true n from e in absurd (omega (arith, low, same))
    go false e rest = rest

-- a number is in it once
once : (n from count : ℕ) → length (filter (λ file. n == file) (range_with_len from count)) ≤ 1
once n from zero = omega arith
once n from (suc count) = go (n == from) refl (once n (from + 1) count)
  where
    go : (b : Bool) → (n == from) ≡ b → length (filter (λ file. n == file) (range_with_len (from + 1) count)) ≤ 1
        → length (cond b (from ∷ filter (λ file. n == file) (range_with_len (from + 1) count)) (filter (λ file. n == file) (range_with_len (from + 1) count))) ≤ 1
    go true e rest =
        let same = eqb-true n from e in
        let none = none_below n (from + 1) count (omega (arith, same)) in
        omega (arith, none)
    go false e rest = rest

range_parts : (from a c : ℕ) → range_with_len from (a + c) ≡ range_with_len from a ++ range_with_len (from + a) c
range_parts from zero c =
    let none : 0 + c ≡ c = omega arith in
    let here : from ≡ from + 0 = omega arith in
    ap (λ (n : ℕ). range_with_len from n) none ∙ ap (λ (n : ℕ). range_with_len n c) here
range_parts from (suc a) c =
    let more : suc a + c ≡ suc (a + c) = omega arith in
    let here : from + 1 + a ≡ from + suc a = omega arith in
    ap (λ (n : ℕ). range_with_len from n) more
    ∙ ap (λ (l : List ℕ). from ∷ l) (range_parts (from + 1) a c ∙ ap (λ (n : ℕ). range_with_len (from + 1) a ++ range_with_len n c) here)

-- ---- files

-- as many files of a range are blocks as there are blocks, or fewer
pub blocks_in : (ks : List Block) (from count : ℕ) → length (filter (is_among ks) (range_with_len from count)) ≤ length ks
blocks_in [] from count = let none = no_files (range_with_len from count) in omega (arith, none)
  where
    no_files : (fs : List ℕ) → length (filter (is_among []) fs) ≡ 0
    no_files [] = refl
    no_files (f ∷ fs) = no_files fs
blocks_in (k ∷ ks) from count =
    let two = either (λ (file : ℕ). k.file == file) (is_among ks) (range_with_len from count) in
    let first = once k.file from count in
    let rest = blocks_in ks from count in
    omega (arith, two, first, rest)

-- how many of a range are none
abbrev pub count_free : Blocks → ℕ → ℕ → ℕ
count_free b from count = length (filter (λ file. not (has_block b file)) (range_with_len from count))

pub free_parts : (b : Blocks) (from a c : ℕ) → count_free b from (a + c) ≡ count_free b from a + count_free b (from + a) c
free_parts b from a c =
    let free = λ (file : ℕ). not (has_block b file) in
    ap (λ (l : List ℕ). length (filter free l)) (range_parts from a c) ∙ ap length (kept-append free (range_with_len from a) (range_with_len (from + a) c))
    ∙ length-append (filter free (range_with_len from a)) (filter free (range_with_len (from + a) c))

-- up to the first that is found it is the only one
found_alone : (b : Blocks) (n from file : ℕ) → find (λ f. not (has_block b f)) (range_with_len from n) ≡ Some file → (from ≤ file) × (count_free b from (file + 1 - from) ≡ 1)
found_alone b zero from file h = cc
found_alone b (suc n) from file h = go (has_block b from) refl h (found_alone b n (from + 1) file)
  where
    counted : (g : Bool) → has_block b from ≡ g → (count more : ℕ) → count ≡ suc more → count_free b from count ≡ length (cond (not g) (from ∷ filter (λ f. not (has_block b f)) (range_with_len (from + 1) more)) (filter (λ f. not (has_block b f)) (range_with_len (from + 1) more)))
    counted g e count more is =
        ap (λ (m : ℕ). count_free b from m) is
        ∙ ap (λ (c : Bool). length (cond (not c) (from ∷ filter (λ f. not (has_block b f)) (range_with_len (from + 1) more)) (filter (λ f. not (has_block b f)) (range_with_len (from + 1) more)))) e

    go : (g : Bool) → has_block b from ≡ g → cond (not g) (Some from) (find (λ f. not (has_block b f)) (range_with_len (from + 1) n)) ≡ Some file
        → (find (λ f. not (has_block b f)) (range_with_len (from + 1) n) ≡ Some file → (from + 1 ≤ file) × (count_free b (from + 1) (file + 1 - (from + 1)) ≡ 1))
        → (from ≤ file) × (count_free b from (file + 1 - from) ≡ 1)
    go true e is rest =
        let r = rest is in
        let least : from + 1 ≤ file = r.0 in
        (omega (arith, least), counted true e (file + 1 - from) (file + 1 - (from + 1)) (omega (arith, least)) ∙ r.1)
    go false e is rest =
        let same : from ≡ file = grind (arith, is) in
        (omega (arith, same), counted false e (file + 1 - from) 0 (omega (arith, same)))

-- ---- what a batch begins

pub from_two : (from : ℕ) → 2 + (from - 2) ≡ max 2 from
from_two zero = refl
from_two (suc zero) = refl
from_two (suc (suc n)) = omega arith

-- a file that is begun is the only one more
pub begun_at : (b : Blocks) (from file : ℕ) → free_from from b ≡ Some file → begun_below b (file + 1) ≡ begun_below b from + 1
begun_at b from file found =
    let alone = found_alone b (65536 - max 2 from) (max 2 from) file found in
    let start = from_two from in
    let whole : file + 1 - 2 ≡ (from - 2) + (file + 1 - max 2 from) = omega (arith, start, alone.0) in
    let one : count_free b (2 + (from - 2)) (file + 1 - max 2 from) ≡ 1 = ap (λ (n : ℕ). count_free b n (file + 1 - max 2 from)) start ∙ alone.1 in
    let parts : begun_below b (file + 1) ≡ begun_below b from + count_free b (2 + (from - 2)) (file + 1 - max 2 from) =
    ap (λ (n : ℕ). count_free b 2 n) whole ∙ free_parts b 2 (from - 2) (file + 1 - max 2 from) in
    omega (arith, one, parts)

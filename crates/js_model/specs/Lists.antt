-- Relations on lists, this server's own: what a list lacks, ascending lists, lists apart, parts of a list.
use Rattle.std.specs.Prelude.{◌≡◌, ℕ, ◌+◌, ◌≤◌, Bool, true, false, List, [], ◌∷◌, ⊤}
use Rattle.std.specs.List.{list_any}
use Rattle.js_base.specs.Bytes.{has}

-- no element of the list passes the test
pub record Lacks {X : Type 0} (t : X → Bool) (xs : List X) : Type 0 where
  pub none : list_any t xs ≡ false

-- the elements ascend, from low on and below high
abbrev pub Between : {X : Type 0} → (X → ℕ) → ℕ → ℕ → List X → Type 0
Between f low high [] = low ≤ high
Between f low high (x ∷ xs) = (low ≤ f x) × Between f (f x + 1) high xs

-- no number is in both lists
pub record Apart (xs ys : List ℕ) : Type 0 where
  pub apart : (n : ℕ) → has xs n ≡ true → has ys n ≡ false

-- the numbers ascend, from low on
abbrev pub Ascends : ℕ → List ℕ → Type 0
Ascends low [] = ⊤
Ascends low (n ∷ ns) = (low ≤ n) × Ascends (n + 1) ns

-- ys are some of the xs, in their order
pub data IsPart {X : Type 0} : List X → List X → Type 0 where
  none : IsPart [] []
  keep : {x : X} {ys xs : List X} → IsPart ys xs → IsPart (x ∷ ys) (x ∷ xs)
  skip : {x : X} {ys xs : List X} → IsPart ys xs → IsPart ys (x ∷ xs)

-- The first of a list of numbers, if there is one.
use Rattle.std.specs.Prelude.{ℕ, List, [], ◌∷◌, Option, Some, None}

abbrev pub first_number : List ℕ → Option ℕ
first_number [] = None
first_number (n ∷ _) = Some n

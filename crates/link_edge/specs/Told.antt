-- What is known of the outside: a list, or `None` if nothing is known. Each definition reads alike of both.
use Rattle.std.specs.Prelude.{◌≡◌, List, [], ◌++◌, Option, option_map}

-- a known list, with more at its end
abbrev pub grown : {X : Type 0} → Option (List X) → List X → Option (List X)
grown known more = option_map (λ xs. xs ++ more) known

-- no elements, if it is known
abbrev pub emptied : {X : Type 0} → Option (List X) → Option (List X)
emptied known = option_map (λ _. []) known

-- the old list is these elements, and then the new one
abbrev pub Loses : {X : Type 0} → Option (List X) → Option (List X) → List X → Type 0
Loses old new front = old ≡ option_map (λ rest. front ++ rest) new

-- Going over the items of a list.
use Rattle.std.proofs.Common.{◌≡◌, List, [], ◌∷◌, ◌++◌, length, not, ◌==◌, Option, Some, option_map, refl, ap, ◌∙◌, arith}
use Rattle.std.proofs.lemmas.Bool.Decides.{nat_tests}
use Rattle.serde_json.specs.Data.{Data, null, boolean, number, string, array, object}
use Rattle.serde_json.specs.Find.{as_array}
use Rattle.serde_json.specs.View.{items_view}
use Rattle.serde_json.specs.declared.value.Value.{Value}
use Rattle.js_json.specs.Kinds.{has_items, is_something}

-- what was taken so far, and what is taken of the rest
abbrev pub behind : {X : Type 0} → List X → Option (List X) → Option (List X)
behind front rest = option_map (λ more. front ++ more) rest

-- a list has items if it is not empty
filled : (vs : List Value) → not (length vs == 0) ≡ has_items (items_view vs)
filled [] = refl
filled (v ∷ vs) = grind (arith, nat_tests)

-- a list says something if it has items
pub list_says : (value : Data) (vs : List Value) → Some (items_view vs) ≡ as_array value → not (length vs == 0) ≡ is_something value
list_says null vs e = cc
list_says (boolean b) vs e = cc
list_says (number n) vs e = cc
list_says (string text) vs e = cc
list_says (array items) vs e = filled vs ∙ ap has_items (cc)
list_says (object _) vs e = cc

-- Which place a name has.
use Rattle.std.specs.Prelude.{◌≡◌, ℕ, cond, Option}
use Rattle.std.specs.Ordering.{nat_cmp}
use Rattle.std.specs.Cmp.Lexicographic.{slice_cmp}
use Rattle.std.specs.BTreeMap.{get_by}
use Rattle.js_base.specs.Bytes.{Bytes, same}
use Rattle.catalog.specs.declared.names.Names.{Names}

abbrev pub place_in : Names → Bytes → Option ℕ
place_in names name = get_by (λ key. slice_cmp nat_cmp name key.items) names.places

-- this name has this place now, and the others have theirs
pub record Sets (old new : Names) (here : Bytes) (place : Option ℕ) : Type 0 where
  pub at : (name : Bytes) → place_in new name ≡ cond (same here name) place (place_in old name)

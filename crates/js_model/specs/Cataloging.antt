-- What the calls of a catalog answer, and what they ask of their place, by rules of this server's own.
use Rattle.std.specs.Prelude.{◌≡◌, ℕ, ◌<◌, ◌^◌, false, IsTrue, Bool, Some, IsNone, IsSome, Result, Ok, Err}
use Rattle.std.specs.List.{slice_get}
use Rattle.std.specs.Option.{IsSomeAnd}
use Rattle.js_model.specs.declared.desk.PlaceAt.{PlaceAt}
use Rattle.js_model.specs.declared.catalog_fault.CatalogFault.{CatalogFault}
use Rattle.js_model.specs.declared.catalog_fault.CatalogFault.TheVariants as faults
use Rattle.js_model.specs.Catalog.{Catalog, Place, CatTold, Done, At, Refused, NoMemory}

-- ---- the answers

abbrev pub add_told : Result PlaceAt CatalogFault → CatTold
add_told (Ok at) = At (Some at)
add_told (Err (faults.Refused error)) = Refused error
add_told (Err faults.NoMemory) = NoMemory

abbrev pub change_told : Result (Unit {0}) CatalogFault → CatTold
change_told (Ok _) = Done
change_told (Err (faults.Refused error)) = Refused error
change_told (Err faults.NoMemory) = NoMemory

-- ---- what is asked of a place

-- the catalog has a place of this number, of which that holds
abbrev pub HasPlace : Catalog → ℕ → (Place → Type 0) → Type 0
HasPlace catalog n holds = IsSomeAnd (slice_get catalog n) holds

-- it is used
abbrev pub IsUsed : Place → Type 0
IsUsed place = IsSome place.used

-- if it is not stopped, its stream has one list of subjects
abbrev pub MayChange : Place → Type 0
MayChange place = IsSomeAnd place.used (λ u. u.stopped ≡ false → IsNone u.new_subjects)

-- if it is not stopped, its stream has two lists of subjects
abbrev pub MayKeep : Place → Type 0
MayKeep place = IsSomeAnd place.used (λ u. u.stopped ≡ false → IsSome u.new_subjects)

-- it is used, and if its stream was dropped there is a next incarnation
pub record MayRemove (dropped : Bool) (place : Place) : Type 0 where
  pub used : IsUsed place
  pub number : IsTrue dropped → place.incarnation < 2 ^ 62

-- Whose entries stand in a run, by rules of this server's own: what a seat has seen is a run, and its own entries stand in it once and in order.
use Rattle.std.specs.Prelude.{◌≡◌, ℕ, List, filter}
use Rattle.js_base.specs.Bytes.{has}
use Rattle.js_model.specs.declared.stream.State.{State}
use Rattle.js_model.specs.declared.entry.PlaceEntry.{PlaceEntry}
use Rattle.js_model.specs.declared.entry.PlaceEntry.TheVariants.{Step, Deliver, Broken}
use Rattle.js_model.specs.Runs.{Run}
use Rattle.js_model.specs.Router.{Router, RouteEntry, RouteRun}
use Rattle.js_model.specs.Catalog.{Catalog, CatEntry, CatRun}

abbrev pub seat_of : PlaceEntry → ℕ
seat_of (Step seat e now reply outs unsaid) = seat
seat_of (Deliver seat now listening d outs) = seat
seat_of (Broken seat now call) = seat

-- what was seen is a run, and mine are its entries with one of these seats
pub record IsLegal {E : Type 0} (IsRun : List E → Type 0) (seat : E → ℕ) (seats : List ℕ) (seen mine : List E) : Type 0 where
  pub run : IsRun seen
  pub own : mine ≡ filter (λ e. has seats (seat e)) seen

-- the entries are a run of a place, of a router, of a catalog, from the opening state
abbrev pub IsPlaceRun : State → List PlaceEntry → Type 0
IsPlaceRun opening entries = (end : State) × Run opening entries end

abbrev pub IsRouteRun : Router → List RouteEntry → Type 0
IsRouteRun opening entries = (end : Router) × RouteRun opening entries end

abbrev pub IsCatRun : Catalog → List CatEntry → Type 0
IsCatRun opening entries = (end : Catalog) × CatRun opening entries end

-- What the histories that callers share are made of, this server's own: steps of a place, calls of the router and calls of the catalog.
use Rattle.std.specs.Prelude.{◌≡◌, ℕ, List}
use Rattle.std.specs.List.{AllByRecursion}
use Rattle.atomic_table.specs.Seated.{TableId}
use Rattle.js_model.specs.declared.stream.State.{State}
use Rattle.js_model.specs.declared.entry.PlaceEntry.{PlaceEntry}
use Rattle.js_model.specs.Router.{RouteEntry}
use Rattle.js_model.specs.Catalog.{Catalog, CatEntry}
use Rattle.model_laws.specs.Legal as places

-- one entry of a history
pub data Entry : Type 0 where
  AtPlace : PlaceEntry → Entry
  AtRouter : RouteEntry → Entry
  AtCatalog : CatEntry → Entry

-- a seat of a lock, by its number
pub record SeatId : Type 0 where
  pub lock : TableId
  pub number : ℕ

-- the state in which a history opens: of a place with its volume's count of faults, and with its seat at the router to which it sends; a router
-- opens without sessions
pub data Opening : Type 0 where
  OfPlace : (state : State) (faults : ℕ) (port : SeatId) → Opening
  OfRouter : Opening
  OfCatalog : (catalog : Catalog) → Opening

-- the seat whose turn it was
abbrev pub seat_of : Entry → ℕ
seat_of (AtPlace step) = places.seat_of step
seat_of (AtRouter call) = call.seat
seat_of (AtCatalog call) = call.seat

-- each entry is by the seat of this number
abbrev pub AreBy : ℕ → List Entry → Type 0
AreBy seat entries = AllByRecursion (λ e. seat_of e ≡ seat) entries

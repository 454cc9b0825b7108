-- A turn of the catalog, this server's own.
use Rattle.std.specs.Prelude.{◌≡◌, ◌++◌, true, List}
use Rattle.js_base.specs.Bytes.{has}
use Rattle.js_model.specs.Catalog.{Catalog, CatCall, CatTold, IsCatalogCall}
use Rattle.histories.specs.Entries.{Entry, AreBy}
use Rattle.histories.specs.Lawful.{CatalogStands}
use Rattle.turn_lock.specs.Calls.{number_of}
use Rattle.turn_lock.specs.Seats.{SeatView}
use Rattle.hub_fronts.specs.Stepping.{CatalogTurn}

-- the seat as it will be as the turn ends, and the catalog as it is now
pub record TurnView : Type 0 where
  pub seat : SeatView
  pub kept : Catalog

-- the catalog is what the seat has seen and these entries, each by the seat, lead to
pub record IsOpenTurn (inside : SeatView) (entries : List Entry) (catalog : Catalog) : Type 0 where
  pub among : has inside.numbers (number_of inside) ≡ true
  pub by : AreBy (number_of inside) entries
  pub stands : CatalogStands inside.opening (inside.front ++ entries) catalog

-- the catalog answered a call, which is one more within the turn
pub record IsCalled (call : CatCall) (told : CatTold) (old new : TurnView) : Type 0 where
  pub answers : IsCatalogCall old.kept call told new.kept
  pub joins : CatalogTurn true call told old.seat new.seat

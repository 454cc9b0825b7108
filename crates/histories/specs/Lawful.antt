-- When a plain state stands for a history, and which histories are lawful, this server's own: the entries of one kind are a run of its machine.
use Rattle.std.specs.Prelude.{◌≡◌, List, [], map}
use Rattle.js_model.specs.declared.stream.State.{State}
use Rattle.js_model.specs.declared.entry.PlaceEntry.{PlaceEntry}
use Rattle.js_model.specs.Runs.{Run}
use Rattle.js_model.specs.Router.{RouteEntry, empty_router}
use Rattle.js_model.specs.Catalog.{Catalog, CatEntry, CatRun}
use Rattle.seat_laws.specs.Seats.{SharedRouter, SeatRun}
use Rattle.histories.specs.Entries.{Entry, AtPlace, AtRouter, AtCatalog, Opening, OfPlace, OfRouter, OfCatalog}

-- ---- the three machines

-- the entries are steps of a place, and lead from old to new
pub record IsPlaceRun (old : State) (entries : List Entry) (new : State) : Type 0 where
  pub steps : List PlaceEntry
  pub same : entries ≡ map AtPlace steps
  pub run : Run old steps new

-- the entries are calls of a router that many seats share, and lead from old to new
pub record IsRouterRun (old : SharedRouter) (entries : List Entry) (new : SharedRouter) : Type 0 where
  pub calls : List RouteEntry
  pub same : entries ≡ map AtRouter calls
  pub run : SeatRun old calls new

-- the entries are calls of a catalog, and lead from old to new
pub record IsCatalogRun (old : Catalog) (entries : List Entry) (new : Catalog) : Type 0 where
  pub calls : List CatEntry
  pub same : entries ≡ map AtCatalog calls
  pub run : CatRun old calls new

-- ---- what a plain state stands for

abbrev pub new_router : SharedRouter
new_router = record { router = empty_router; openers = [] }

-- the state is what these entries lead to from that opening state
abbrev pub PlaceStands : Opening → List Entry → State → Type 0
PlaceStands (OfPlace state faults port) entries new = IsPlaceRun state entries new
PlaceStands OfRouter entries new = ⊥
PlaceStands (OfCatalog catalog) entries new = ⊥

abbrev pub RouterStands : Opening → List Entry → SharedRouter → Type 0
RouterStands (OfPlace state faults port) entries new = ⊥
RouterStands OfRouter entries new = IsRouterRun new_router entries new
RouterStands (OfCatalog catalog) entries new = ⊥

abbrev pub CatalogStands : Opening → List Entry → Catalog → Type 0
CatalogStands (OfPlace state faults port) entries new = ⊥
CatalogStands OfRouter entries new = ⊥
CatalogStands (OfCatalog catalog) entries new = IsCatalogRun catalog entries new

-- ---- which lists are lawful: those that some state stands for

abbrev pub IsPlaceHistory : Opening → List Entry → Type 0
IsPlaceHistory opening entries = (new : State) × PlaceStands opening entries new

abbrev pub IsRouterHistory : Opening → List Entry → Type 0
IsRouterHistory opening entries = (new : SharedRouter) × RouterStands opening entries new

abbrev pub IsCatalogHistory : Opening → List Entry → Type 0
IsCatalogHistory opening entries = (new : Catalog) × CatalogStands opening entries new

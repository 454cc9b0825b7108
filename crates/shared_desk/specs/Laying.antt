-- How the seats of the locks of a hub are dealt into rows and passes, this server's own.
use Rattle.std.specs.Prelude.{◌≡◌, ◌+◌, ◌++◌, ℕ, zero, suc, List, [], ◌∷◌, length, map, Option, None, Some}
use Rattle.std.specs.List.{AllByRecursion, AllZip}
use Rattle.atomic_table.specs.Seated.{TableId}
use Rattle.js_model.specs.Catalog.{Catalog}
use Rattle.js_model.specs.Limits.{last_place}
use Rattle.place_engine.specs.Stepping.{Seen}
use Rattle.histories.specs.Entries.{Opening, OfRouter, OfCatalog}
use Rattle.turn_lock.specs.Calls.{new_seat, new_seats}
use Rattle.turn_lock.specs.Seats.{LockView, SeatView}
use Rattle.hub_fronts.specs.Fronts.{SharedScene}
use Rattle.hub_place.specs.Kinds.{IsNewPort}
use Rattle.shared_desk.specs.Histories.{all_numbers}
use Rattle.shared_desk.specs.Hubs.{HubView}
use Rattle.shared_desk.specs.Opening.{IsLocked}
use Rattle.shared_desk.specs.Passes.{AreAllPasses, IsNewPass, port_numbers, scene_by}

-- ---- one lock

-- a lock with a history that opens so, and so many seats, all of which are new
pub record IsDealt (opening : Opening) (count : ℕ) (of : LockView) (seats : List SeatView) : Type 0 where
  pub opens : of.opening ≡ opening
  pub count_is : of.seats ≡ count
  pub seats_are : seats ≡ new_seats of.lock opening count

-- the same seat, whatever it has seen
pub record IsSameSeat (old new : SeatView) : Type 0 where
  pub lock : new.lock ≡ old.lock
  pub numbers : new.numbers ≡ old.numbers

-- ---- the seats at the places

-- the new seat of this number at each place
abbrev pub row_of : List LockView → ℕ → List (Option SeatView)
row_of locks n = map (λ (of : LockView). Some (new_seat of.lock of.opening n)) locks

-- the row of each number below this one, the greatest first
abbrev pub rows_of : List LockView → ℕ → List (List (Option SeatView))
rows_of locks zero = []
rows_of locks (suc n) = row_of locks n ∷ rows_of locks n

-- each row with one of the seats behind those that it has
abbrev pub put_each : List (List (Option SeatView)) → List SeatView → List (List (Option SeatView))
put_each [] seats = []
put_each (row ∷ rows) [] = []
put_each (row ∷ rows) (seat ∷ seats) = (row ++ Some seat ∷ []) ∷ put_each rows seats

-- ---- passes

-- of each row with a seat at the router and one at the catalog
abbrev pub passes_of : List (List (Option SeatView)) → List SeatView → List SeatView → List SharedScene
passes_of [] routers catalogs = []
passes_of (row ∷ rows) [] catalogs = []
passes_of (row ∷ rows) (router ∷ routers) [] = []
passes_of (row ∷ rows) (router ∷ routers) (catalog ∷ catalogs) = scene_by router catalog row last_place None ∷ passes_of rows routers catalogs

-- ---- all locks

-- The places went behind locks, and each of them took the last of these seats at the router for its port, the first place the first of those.
pub record LocksAll {P : Type 0} (seen : P → Seen) (workers : ℕ) (row : List P) (before after : List SeatView) (locks : List LockView) : Type 0 where
  pub moved : List SeatView
  pub whole : before ≡ after ++ moved
  pub as_many : length moved ≡ length row
  pub count : length locks ≡ length row
  pub numbers : all_numbers moved ≡ port_numbers locks
  pub locked : (router : TableId) → AllByRecursion (λ (seat : SeatView). seat.lock ≡ router) before → AllZip (IsLocked seen router workers) row locks

-- the locks of a hub stand round these places and this catalog, and its passes are new
pub record IsLaid {P : Type 0} (seen : P → Seen) (catalog : Catalog) (workers : ℕ) (row : List P) (hub : HubView) (passes : List SharedScene) : Type 0 where
  pub router : hub.router.opening ≡ OfRouter
  pub router_seats : hub.router.seats ≡ workers + length row
  pub catalog_is : hub.catalog.opening ≡ OfCatalog catalog
  pub catalog_seats : hub.catalog.seats ≡ workers
  pub places : AllZip (IsLocked seen hub.router.lock workers) row hub.places
  pub count : length passes ≡ workers
  pub all : AreAllPasses hub passes
  pub new : AllByRecursion IsNewPass passes

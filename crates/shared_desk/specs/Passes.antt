-- What contracts see of the seats of a caller that makes no call, and what holds of them, this server's own.
use Rattle.std.specs.Prelude.{◌≡◌, ◌<◌, ◌++◌, ℕ, true, List, [], ◌∷◌, length, Option, None, Some, IfSome, is_some, slice_get}
use Rattle.std.specs.List.{AllByRecursion}
use Rattle.js_model.specs.declared.desk.PlaceAt.{PlaceAt}
use Rattle.js_model.specs.Limits.{last_place}
use Rattle.model_laws.specs.Legal.{IsLegal}
use Rattle.histories.specs.Entries.{Entry, Opening, OfPlace, OfRouter, OfCatalog, seat_of}
use Rattle.histories.specs.Fronts.{own}
use Rattle.turn_lock.specs.Calls.{HasAll}
use Rattle.turn_lock.specs.Seats.{LockView, SeatView}
use Rattle.hub_fronts.specs.Fronts.{SharedScene}
use Rattle.shared_desk.specs.Hubs.{HubView}
use Rattle.shared_desk.specs.Seats.{AreOfHub, AreThere, seats_in}

abbrev pub scene_by : SeatView → SeatView → List (Option SeatView) → ℕ → Option PlaceAt → SharedScene
scene_by router catalog places ticked last = record {
  fronts = record { router = router; catalog = catalog; places = seats_in places };
  cursor = record { ticked = ticked; last = last };
}

-- each seat is there, and the last hold was at one of the places
pub record IsPass (router catalog : Option SeatView) (places : List (Option SeatView)) (last : Option PlaceAt) : Type 0 where
  pub at_router : is_some router ≡ true
  pub at_catalog : is_some catalog ≡ true
  pub there : AreThere places
  pub within : IfSome last (λ (at : PlaceAt). at.place < length (seats_in places))

-- what was seen is a lawful beginning of the history of the lock, and the seat's own entries there are those with its numbers
abbrev pub IsLegalAt : (Opening → List Entry → Type 0) → SeatView → Type 0
IsLegalAt lawful seat = IsLegal (lawful seat.opening) seat_of seat.numbers seat.front (own seat.numbers seat.front)

-- it is one of this hub
abbrev pub IsPassOf : HubView → SharedScene → Type 0
IsPassOf hub pass = AreOfHub hub pass.fronts

-- ---- the seats of passes at a place

abbrev pub put_before : Option SeatView → List SeatView → List SeatView
put_before None seats = seats
put_before (Some seat) seats = seat ∷ seats

abbrev pub seats_at : ℕ → List SharedScene → List SeatView
seats_at place [] = []
seats_at place (pass ∷ more) = put_before (slice_get pass.fronts.places place) (seats_at place more)

-- ---- all passes of a hub

-- the numbers of their seats at a lock, pass by pass
abbrev pub numbers_by : (SharedScene → List ℕ) → List SharedScene → List ℕ
numbers_by numbers [] = []
numbers_by numbers (pass ∷ more) = numbers pass ++ numbers_by numbers more

abbrev pub router_numbers : SharedScene → List ℕ
router_numbers pass = pass.fronts.router.numbers

abbrev pub catalog_numbers : SharedScene → List ℕ
catalog_numbers pass = pass.fronts.catalog.numbers

abbrev pub numbers_if : Option SeatView → List ℕ
numbers_if None = []
numbers_if (Some seat) = seat.numbers

abbrev pub place_numbers : ℕ → SharedScene → List ℕ
place_numbers place pass = numbers_if (slice_get pass.fronts.places place)

-- the numbers of the seats at the router by which the places send
abbrev pub port_number : Opening → List ℕ
port_number (OfPlace state faults port) = port.number ∷ []
port_number OfRouter = []
port_number (OfCatalog catalog) = []

abbrev pub port_numbers : List LockView → List ℕ
port_numbers [] = []
port_numbers (place ∷ more) = port_number place.opening ++ port_numbers more

-- each is one of the hub, and theirs and those by which the places send are all seats that its locks were given
pub record AreAllPasses (hub : HubView) (passes : List SharedScene) : Type 0 where
  pub each : AllByRecursion (IsPassOf hub) passes
  pub router : HasAll hub.router.seats (numbers_by router_numbers passes ++ port_numbers hub.places)
  pub catalog : HasAll hub.catalog.seats (numbers_by catalog_numbers passes)
  pub places : (n : ℕ) (place : LockView) → slice_get hub.places n ≡ Some place → HasAll place.seats (numbers_by (place_numbers n) passes)

-- it has seen nothing and made no hold, and its last tick counts as one at the last place
pub record IsNewPass (pass : SharedScene) : Type 0 where
  pub router : pass.fronts.router.front ≡ []
  pub catalog : pass.fronts.catalog.front ≡ []
  pub places : AllByRecursion (λ (seat : SeatView). seat.front ≡ []) pass.fronts.places
  pub ticked : pass.cursor.ticked ≡ last_place
  pub last : pass.cursor.last ≡ None

-- Passes that become one, and what is left of the locks of a hub whose passes all became one, this server's own.
use Rattle.std.specs.Prelude.{◌≡◌, ◌++◌, ℕ, List, [], ◌∷◌, Option}
use Rattle.js_model.specs.declared.stream.State.{State}
use Rattle.js_model.specs.Router.{Router}
use Rattle.place_engine.specs.Stepping.{Image, Seen}
use Rattle.histories.specs.Fronts.{own}
use Rattle.turn_lock.specs.Calls.{HasAll, IsJoined}
use Rattle.turn_lock.specs.Seats.{LockView, SeatView}
use Rattle.hub_fronts.specs.Fronts.{SharedScene}
use Rattle.hub_place.specs.Kinds.{PlaceIs}
use Rattle.hub_router.specs.Kinds.{RouterIs}
use Rattle.desk_places.specs.Closing.{AreClosed}
use Rattle.desk_places.specs.declared.faults.Closed.{Closed}
use Rattle.shared_desk.specs.Hubs.{HubView}
use Rattle.shared_desk.specs.Passes.{port_numbers}
use Rattle.shared_desk.specs.Seats.{AllThree, AreOfHub}

-- ---- passes

-- at each lock their seats became one
pub record IsPassJoined (one other new : SharedScene) : Type 0 where
  pub router : IsJoined one.fronts.router other.fronts.router new.fronts.router
  pub catalog : IsJoined one.fronts.catalog other.fronts.catalog new.fronts.catalog
  pub places : AllThree IsJoined one.fronts.places other.fronts.places new.fronts.places

-- this seat, and each of a row before it, became one
abbrev pub TakesIn : SeatView → List SeatView → SeatView → Type 0
TakesIn seat [] all = seat ≡ all
TakesIn seat (other ∷ more) all = (mid : SeatView) × TakesIn seat more mid × IsJoined other mid all

-- ---- locks

-- the one seat that is left of a lock has seen the whole history, of which each entry is its own
pub record HasSeenAll (of : LockView) (seat : SeatView) : Type 0 where
  pub opening : seat.opening ≡ of.opening
  pub whole : own seat.numbers seat.front ≡ seat.front

module _ {P V : Type 0} (seen : P → Seen) (vol : P → V) (holds : Image → State → Type 0) (left : V → ℕ → Image → Type 0) (clock : V → ℕ) (base : Option ℕ → V → State → Type 0) (keeps : V → V → Type 0) where
  -- for that history the place and its port stand
  pub record UnlocksOne (of : LockView) (seat : SeatView) (place : P) (port : SeatView) : Type 0 where
    pub all : HasSeenAll of seat
    pub stands : PlaceIs holds left clock base keeps seat.opening seat.front (seen place).place (vol place) port

  abbrev pub UnlockRow : List LockView → List SeatView → List P → List SeatView → Type 0
  UnlockRow [] [] [] [] = Unit {0}
  UnlockRow [] [] [] (port ∷ ports) = ⊥
  UnlockRow [] [] (place ∷ row) ports = ⊥
  UnlockRow [] (seat ∷ seats) row ports = ⊥
  UnlockRow (of ∷ locks) [] row ports = ⊥
  UnlockRow (of ∷ locks) (seat ∷ seats) [] ports = ⊥
  UnlockRow (of ∷ locks) (seat ∷ seats) (place ∷ row) [] = ⊥
  UnlockRow (of ∷ locks) (seat ∷ seats) (place ∷ row) (port ∷ ports) = UnlocksOne of seat place port × UnlockRow locks seats row ports

  -- so it is with each lock of a row, and the ports became one with a seat at the router
  pub record UnlocksEach (locks : List LockView) (seats : List SeatView) (row : List P) (old new : SeatView) : Type 0 where
    pub ports : List SeatView
    pub row_is : UnlockRow locks seats row ports
    pub joined : TakesIn old ports new

-- ---- all locks

-- the seats of the one pass that is left, and those by which the places send, are all seats that the locks of the hub were given
abbrev pub HaveAll : List LockView → List SeatView → Type 0
HaveAll [] [] = Unit {0}
HaveAll [] (seat ∷ seats) = ⊥
HaveAll (of ∷ locks) [] = ⊥
HaveAll (of ∷ locks) (seat ∷ seats) = HasAll of.seats seat.numbers × HaveAll locks seats

pub record HasAllSeats (hub : HubView) (all : SharedScene) : Type 0 where
  pub are_of : AreOfHub hub all.fronts
  pub router : HasAll hub.router.seats (all.fronts.router.numbers ++ port_numbers hub.places)
  pub catalog : HasAll hub.catalog.seats all.fronts.catalog.numbers
  pub places : HaveAll hub.places all.fronts.places

module _ {P V : Type 0} (seen : P → Seen) (vol : P → V) (holds : Image → State → Type 0) (reads : V → Image → Type 0) (left : V → ℕ → Image → Type 0) (clock : V → ℕ)
    (base : Option ℕ → V → State → Type 0) (keeps : V → V → Type 0) where
  -- each place and the router stood for a whole history, and the places were flushed
  pub record TakesApart (hub : HubView) (all : SharedScene) (closed : Closed V) : Type 0 where
    pub row : List P
    pub router : SeatView
    pub unlocks : UnlocksEach seen vol holds left clock base keeps hub.places all.fronts.places row all.fronts.router router
    pub routers : HasSeenAll hub.router router
    pub value : Router
    pub stands : RouterIs router.opening router.front value
    pub closes : AreClosed seen vol holds reads left clock base keeps row closed.vols.items closed.failed

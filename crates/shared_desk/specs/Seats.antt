-- Which seats are those of a caller of a hub, this server's own.
use Rattle.std.specs.Prelude.{◌≡◌, List, [], ◌∷◌, map, Option, None, Some}
use Rattle.std.specs.List.{AllZip}
use Rattle.atomic_table.specs.Seated.{TableId}
use Rattle.histories.specs.Entries.{OfRouter}
use Rattle.turn_lock.specs.Calls.{new_seat}
use Rattle.turn_lock.specs.Seats.{LockView, SeatView}
use Rattle.hub_fronts.specs.Fronts.{Fronts}
use Rattle.shared_desk.specs.Hubs.{HubView}

-- it is one of this lock, whose history opens as the seat shows
pub record IsSeatOf (of : LockView) (seat : SeatView) : Type 0 where
  pub lock : seat.lock ≡ of.lock
  pub opening : seat.opening ≡ of.opening

-- a seat of each lock of the hub
pub record AreOfHub (hub : HubView) (fronts : Fronts) : Type 0 where
  pub router : IsSeatOf hub.router fronts.router
  pub catalog : IsSeatOf hub.catalog fronts.catalog
  pub places : AllZip IsSeatOf hub.places fronts.places

-- ---- a seat that is away within a call alone

-- a seat of no lock stands for it then
abbrev pub no_lock : TableId
no_lock = record { words = 0; slots = 0; views_name = 0; atom = 0; block = 0; offset = 0; slot_names = [] }

abbrev pub nowhere : SeatView
nowhere = new_seat no_lock OfRouter 0

abbrev pub seat_in : Option SeatView → SeatView
seat_in None = nowhere
seat_in (Some seat) = seat

-- it is there, and it is one of this lock
abbrev pub IsSeated : LockView → Option SeatView → Type 0
IsSeated of None = ⊥
IsSeated of (Some seat) = IsSeatOf of seat

-- those of a row that are there
abbrev pub seats_in : List (Option SeatView) → List SeatView
seats_in [] = []
seats_in (None ∷ more) = seats_in more
seats_in (Some seat ∷ more) = seat ∷ seats_in more

-- all of a row are there
abbrev pub AreThere : List (Option SeatView) → Type 0
AreThere row = row ≡ map Some (seats_in row)

-- so it is with each three seats of three rows, place by place
abbrev pub AllThree : (SeatView → SeatView → SeatView → Type 0) → List SeatView → List SeatView → List SeatView → Type 0
AllThree Are [] [] [] = Unit {0}
AllThree Are [] [] (z ∷ zs) = ⊥
AllThree Are [] (y ∷ ys) zs = ⊥
AllThree Are (x ∷ xs) [] zs = ⊥
AllThree Are (x ∷ xs) (y ∷ ys) [] = ⊥
AllThree Are (x ∷ xs) (y ∷ ys) (z ∷ zs) = Are x y z × AllThree Are xs ys zs

-- The port of a place, this server's own: the place's seat at the router, by which it sends its outputs.
use Rattle.std.specs.Prelude.{◌≡◌, ◌≢◌, ◌++◌, ℕ, Bool, true, List, [], ◌∷◌, Option, None, Some, is_some}
use Rattle.std.specs.List.{AllByRecursion}
use Rattle.atomic_table.specs.Seated.{TableId}
use Rattle.js_base.specs.declared.out.Out.{Out}
use Rattle.js_model.specs.Router.{RouteCall, Open, Close, Options, Sub, Unsub, Publish, Interest, Collect, RouteTold, Listens, RouteEntry}
use Rattle.js_api.specs.Worlds.{IsTried}
use Rattle.histories.specs.Entries.{OfRouter, SeatId}
use Rattle.histories.specs.Fronts.{own}
use Rattle.turn_lock.specs.Calls.{new_seat}
use Rattle.turn_lock.specs.Ruled.{last_ticket}
use Rattle.turn_lock.specs.Seats.{SeatView}
use Rattle.hub_fronts.specs.Stepping.{Wears}
use Rattle.hub_router.specs.Calls.{IsCalled}
use Rattle.hub_router.specs.Kinds.{calls_in}

-- ---- its seat

-- the seat of a port, which is there between any two calls
abbrev pub seat_in : TableId → Option SeatView → SeatView
seat_in lock None = new_seat lock OfRouter 0
seat_in lock (Some seat) = seat

-- it is there, and it is one of this lock
pub record IsPort (lock : TableId) (seat : Option SeatView) : Type 0 where
  pub is_there : is_some seat ≡ true
  pub own : (seat_in lock seat).lock ≡ lock

-- the call was made in a turn of the seat
abbrev pub IsRouted : SeatView → RouteCall → RouteTold → SeatView → Type 0
IsRouted old call told new = IsCalled call told old new

-- all tickets of the router are drawn, and this is the one that is never drawn
abbrev pub IsWorn : SeatView → ℕ → SeatView → Type 0
IsWorn old number new = (number ≡ last_ticket) × Wears old new

-- a seat of this lock that has this number alone
pub record IsSeat (id : SeatId) (seat : SeatView) : Type 0 where
  pub lock : seat.lock ≡ id.lock
  pub numbers : seat.numbers ≡ id.number ∷ []

-- ---- what it has sent

-- the message of the server itself that a call publishes, if it publishes one
abbrev pub published_by : RouteCall → List Out
published_by Open = []
published_by (Close n) = []
published_by (Options n echo headers) = []
published_by (Sub n pattern queue sid) = []
published_by (Unsub n sid max) = []
published_by (Publish out None) = out ∷ []
published_by (Publish out (Some from)) = []
published_by (Interest subject queue) = []
published_by (Collect n max) = []

-- the messages of the server itself that calls publish, in order
abbrev pub published : List RouteEntry → List Out
published [] = []
published (entry ∷ more) = published_by entry.call ++ published more

-- a message of the server itself was taken or found no memory; or it was told whether somebody listens
abbrev pub IsOfPort : RouteCall → RouteTold → Type 0
IsOfPort Open told = ⊥
IsOfPort (Close n) told = ⊥
IsOfPort (Options n echo headers) told = ⊥
IsOfPort (Sub n pattern queue sid) told = ⊥
IsOfPort (Unsub n sid max) told = ⊥
IsOfPort (Publish out None) told = (taken : Bool) × IsTried told taken
IsOfPort (Publish out (Some from)) told = ⊥
IsOfPort (Interest subject queue) told = (heard : Bool) × (told ≡ Listens heard)
IsOfPort (Collect n max) told = ⊥

-- the seat's own calls of the router, each once and in order
abbrev pub own_calls : SeatView → List RouteEntry
own_calls seat = calls_in (own seat.numbers seat.front)

-- Among the port's own calls the messages published are these outputs, in order, and each was taken or found no memory. If all tickets of the router
-- are drawn, they are the first of these outputs.
pub record HasSent (port : SeatView) (outs : List Out) : Type 0 where
  pub unsent : List Out
  pub outs_are : outs ≡ published (own_calls port) ++ unsent
  pub all : port.drawn ≢ last_ticket → unsent ≡ []
  pub are : AllByRecursion (λ (entry : RouteEntry). IsOfPort entry.call entry.told) (own_calls port)

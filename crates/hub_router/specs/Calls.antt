-- What a call of the router by a seat of many comes to, this server's own.
use Rattle.std.specs.Prelude.{◌≡◌, ℕ, Bool, true, [], ◌∷◌, IfSome}
use Rattle.js_model.specs.Router.{Router, RouteCall, RouteTold, IsRoute, is_open}
use Rattle.seat_laws.specs.Seats.{MayName, has_opened, named}
use Rattle.turn_lock.specs.Calls.{number_of}
use Rattle.turn_lock.specs.Seats.{SeatView}
use Rattle.histories.specs.Lawful.{IsRouterHistory}
use Rattle.hub_fronts.specs.Stepping.{RouterTurn, routed_by}
use Rattle.hub_fronts.specs.Turns.{Leaves}
use Rattle.hub_router.specs.Kinds.{openers_in}

-- the seat opened this session, by what it has seen, and did not close it
abbrev pub is_own : SeatView → ℕ → Bool
is_own seat n = has_opened (openers_in seat.front) (number_of seat) n

-- a call is for a session that the seat opened, or for none
abbrev pub MayCall : SeatView → RouteCall → Type 0
MayCall seat call = MayName (openers_in seat.front) (number_of seat) (named call)

-- a call that names a session is for one that is open
abbrev pub IsForOpen : Router → RouteCall → Type 0
IsForOpen router call = IfSome (named call) (λ n. is_open router n ≡ true)

-- the call was made of the router as it was then, and left within the turn
pub record IsCalledWithin (call : RouteCall) (told : RouteTold) (old new : SeatView) : Type 0 where
  pub leaves : Leaves IsRouterHistory (routed_by (number_of old) call told ∷ []) old new
  pub was : Router
  pub is : Router
  pub route : IsRoute was call told is
  pub for_open : IsForOpen was call

-- in a turn of its own
pub record IsCalled (call : RouteCall) (told : RouteTold) (old new : SeatView) : Type 0 where
  pub turn : RouterTurn call told old new
  pub was : Router
  pub is : Router
  pub route : IsRoute was call told is
  pub for_open : IsForOpen was call

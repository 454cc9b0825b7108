-- A turn of the router, this server's own.
use Rattle.std.specs.Prelude.{◌≡◌, ◌<◌, ◌≤◌, ◌++◌, true, List}
use Rattle.js_base.specs.Bytes.{has}
use Rattle.js_model.specs.Router.{Router}
use Rattle.histories.specs.Entries.{Entry, AreBy}
use Rattle.turn_lock.specs.Calls.{number_of}
use Rattle.turn_lock.specs.Ruled.{last_ticket}
use Rattle.turn_lock.specs.Seats.{SeatView}
use Rattle.hub_fronts.specs.Turns.{HasSeen}
use Rattle.hub_router.specs.Kinds.{RouterIs}

-- the seat drew a ticket and came in
pub record Enters (old inside : SeatView) : Type 0 where
  pub sees : HasSeen old inside
  pub ticket : old.drawn < inside.drawn
  pub low : inside.drawn ≤ last_ticket

-- the router stands for what the seat has seen and these entries, each by the seat
pub record IsOpenTurn (inside : SeatView) (entries : List Entry) (router : Router) : Type 0 where
  pub among : has inside.numbers (number_of inside) ≡ true
  pub by : AreBy (number_of inside) entries
  pub stands : RouterIs inside.opening (inside.front ++ entries) router

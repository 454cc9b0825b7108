-- When a place with its port stands for a history that many share, this server's own.
use Rattle.std.specs.Prelude.{◌≡◌, ◌≤◌, ℕ, List, length, Option, None}
use Rattle.js_model.specs.declared.stream.State.{State}
use Rattle.js_model.specs.PlaceStates.{PlaceIn}
use Rattle.js_model.specs.Runs.{messages_of}
use Rattle.js_api.specs.Outputs.{outs_of}
use Rattle.histories.specs.Entries.{Entry, Opening, OfPlace, OfRouter, OfCatalog, SeatId}
use Rattle.turn_lock.specs.Calls.{new_seat, number_of}
use Rattle.turn_lock.specs.Seats.{SeatView}
use Rattle.hub_fronts.specs.Standing.{IsStanding}
use Rattle.hub_place.specs.Lasting.{HasLasted, IsOpenedTo}
use Rattle.hub_place.specs.Ports.{HasSent, IsSeat}

-- the opening state of a place that has this port
abbrev pub opening_of : PlaceIn → SeatView → Opening
opening_of place port = OfPlace place.state place.volume.faults (record { lock = port.lock; number = number_of port })

module _ {V Image : Type 0} (holds : Image → State → Type 0) (left : V → ℕ → Image → Type 0) (clock : V → ℕ) (base : Option ℕ → V → State → Type 0) (keeps : V → V → Type 0) where
  -- The entries are steps of the place, and lead from its opening state to what stands there. The port is the seat that was given to it, and has sent the
  -- outputs of these steps. A crash may leave a beginning of them, with all that were confirmed by then.
  pub record IsHubPlace (state : State) (faults : ℕ) (id : SeatId) (entries : List Entry) (place : PlaceIn) (vol : V) (port : SeatView) : Type 0 where
    pub standing : IsStanding state faults entries place
    pub seat : IsSeat id port
    pub sent : HasSent port (outs_of state standing.steps)
    pub lasts : HasLasted holds left clock base keeps state standing.steps place vol

  -- from the opening state of a place
  abbrev pub PlaceIs : Opening → List Entry → PlaceIn → V → SeatView → Type 0
  PlaceIs (OfPlace state faults id) entries place vol port = IsHubPlace state faults id entries place vol port
  PlaceIs OfRouter entries place vol port = ⊥
  PlaceIs (OfCatalog catalog) entries place vol port = ⊥

  -- ---- the beginning

  -- the place was opened, and nothing was made there since
  pub record IsNewPlace (place : PlaceIn) (vol : V) : Type 0 where
    pub going : place.stopped ≡ None
    pub counted : place.stored ≤ length (messages_of place.state)
    pub opened : IsOpenedTo holds left clock base keeps place.state vol

-- the seat is one of the router with one number, and has seen nothing
pub record IsNewPort (port : SeatView) : Type 0 where
  pub number : ℕ
  pub is_new : port ≡ new_seat port.lock OfRouter number

-- What a place with its port stands for is a history of the place.
use Rattle.std.specs.Prelude.{ℕ, List, Option}
use Rattle.js_model.specs.declared.stream.State.{State}
use Rattle.js_model.specs.PlaceStates.{PlaceIn}
use Rattle.histories.specs.Entries.{Entry, Opening, OfPlace, OfRouter, OfCatalog}
use Rattle.histories.specs.Lawful.{IsPlaceHistory}
use Rattle.turn_lock.specs.Seats.{SeatView}
use Rattle.hub_fronts.specs.Standing.{StandsAt}
use Rattle.hub_place.specs.Kinds.{PlaceIs}

pub stands_so : (opening : Opening) (entries : List Entry) (place : PlaceIn) → StandsAt opening entries place → IsPlaceHistory opening entries
stands_so (OfPlace state faults id) entries place h = (place.state, record { steps = h.steps; same = h.same; run = h.run })
stands_so OfRouter entries place h = absurd h
stands_so (OfCatalog catalog) entries place h = absurd h

module _ {V Image : Type 0} (holds : Image → State → Type 0) (left : V → ℕ → Image → Type 0) (clock : V → ℕ) (base : Option ℕ → V → State → Type 0) (keeps : V → V → Type 0) where
  pub stands_at : (opening : Opening) (entries : List Entry) (place : PlaceIn) (vol : V) (port : SeatView) → PlaceIs holds left clock base keeps opening entries place vol port → StandsAt opening entries place
  stands_at (OfPlace state faults id) entries place vol port h = h.standing
  stands_at OfRouter entries place vol port h = absurd h
  stands_at (OfCatalog catalog) entries place vol port h = absurd h

  pub is_history : (opening : Opening) (entries : List Entry) (place : PlaceIn) (vol : V) (port : SeatView) → PlaceIs holds left clock base keeps opening entries place vol port → IsPlaceHistory opening entries
  is_history opening entries place vol port h = stands_so opening entries place (stands_at opening entries place vol port h)

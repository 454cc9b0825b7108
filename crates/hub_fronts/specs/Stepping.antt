-- How the entries of a desk lead a caller of many from what it knows to what it knows then, this server's own.
use Rattle.std.specs.Prelude.{◌≡◌, ◌≢◌, ◌⊎◌, ℕ, Bool, true, false, List, [], ◌∷◌, map, None, Some, slice_get, slice_set}
use Rattle.js_model.specs.declared.stream.State.{State}
use Rattle.js_model.specs.declared.desk.PlaceAt.{PlaceAt}
use Rattle.js_model.specs.Catalog.{CatCall, CatTold, NextUsed, At}
use Rattle.js_model.specs.Events.{kept_incarnation}
use Rattle.js_model.specs.PlaceStates.{PlaceIn, VolumeAt}
use Rattle.js_model.specs.Router.{RouteCall, RouteTold}
use Rattle.js_api.specs.Entries.{Hold, entries_in, Sending, Sent, Short, Unsent, DeskEntry, Routed, Looked, Turned, Resumed, Held, Stirred, Halted, Missed, Spent}
use Rattle.js_api.specs.Worlds.{IsHeld, IsStirred, place_or}
use Rattle.histories.specs.Entries.{Entry, AtPlace, AtRouter, AtCatalog}
use Rattle.histories.specs.Lawful.{IsPlaceHistory, IsRouterHistory, IsCatalogHistory}
use Rattle.turn_lock.specs.Calls.{number_of, worn}
use Rattle.turn_lock.specs.Ruled.{last_ticket}
use Rattle.turn_lock.specs.Seats.{SeatView}
use Rattle.hub_fronts.specs.Fronts.{Fronts, SharedScene}
use Rattle.hub_fronts.specs.Standing.{StandsAt}
use Rattle.hub_fronts.specs.Turns.{Leaves, TakesTurn}

-- ---- at the router and at the catalog

abbrev pub routed_by : ℕ → RouteCall → RouteTold → Entry
routed_by seat call told = AtRouter (record { seat = seat; call = call; told = told })

abbrev pub looked_by : ℕ → CatCall → CatTold → Entry
looked_by seat call told = AtCatalog (record { seat = seat; call = call; told = told })

abbrev pub RouterTurn : RouteCall → RouteTold → SeatView → SeatView → Type 0
RouterTurn call told old new = TakesTurn IsRouterHistory (routed_by (number_of old) call told ∷ []) old new

-- a call of the catalog begins a turn, or it is one more within the turn
abbrev pub CatalogTurn : Bool → CatCall → CatTold → SeatView → SeatView → Type 0
CatalogTurn true call told old new = Leaves IsCatalogHistory (looked_by (number_of old) call told ∷ []) old new
CatalogTurn false call told old new = TakesTurn IsCatalogHistory (looked_by (number_of old) call told ∷ []) old new

-- ---- within a turn of a place

-- the seat left these entries: what stood at the place before them, and what stood there then
pub record LeavesAt (entries : List Entry) (old new : SeatView) (was is : PlaceIn) : Type 0 where
  pub leaves : Leaves IsPlaceHistory entries old new
  pub stood : StandsAt old.opening old.front was
  pub stands : StandsAt new.opening new.front is

-- if the numbers of the router's turns were used up, the number that is told is the first that is never drawn
abbrev pub IsTold : Sending → Type 0
IsTold Sent = Unit {0}
IsTold Short = Unit {0}
IsTold (Unsent number) = number ≡ last_ticket

-- a hold: its entries lead from the one to the other
pub record HoldsThere (hold : Hold) (old new : SeatView) : Type 0 where
  pub was : PlaceIn
  pub is : PlaceIn
  pub leaves : LeavesAt (map AtPlace (entries_in hold)) old new was is
  pub held : IsHeld hold was is
  pub told : IsTold hold.sending

-- the volume was called, and no entry was made
pub record StirsThere (before after : VolumeAt) (failed : Bool) (old new : SeatView) : Type 0 where
  pub was : PlaceIn
  pub is : PlaceIn
  pub leaves : LeavesAt [] old new was is
  pub stirred : IsStirred before after failed was is

-- the place was found stopped, and this stands there
pub record HaltsThere (state : State) (old new : SeatView) : Type 0 where
  pub was : PlaceIn
  pub leaves : LeavesAt [] old new was was
  pub count : ℕ
  pub stopped : was.stopped ≡ Some count
  pub state_is : was.state ≡ state

-- the place was found at another incarnation, and not stopped
pub record MissesThere (at : PlaceAt) (kept : ℕ) (old new : SeatView) : Type 0 where
  pub was : PlaceIn
  pub leaves : LeavesAt [] old new was was
  pub going : was.stopped ≡ None
  pub kept_is : kept_incarnation was.state ≡ kept
  pub other : kept ≢ at.incarnation

-- ---- one lock of many

-- the seat at the router, at the catalog, or at the place of a number is changed so, and all else is as it was
abbrev pub AtTheRouter : (SeatView → SeatView → Type 0) → Fronts → Fronts → Type 0
AtTheRouter IsSo old new = IsSo old.router new.router × (new ≡ record old { router = new.router })

abbrev pub AtTheCatalog : (SeatView → SeatView → Type 0) → Fronts → Fronts → Type 0
AtTheCatalog IsSo old new = IsSo old.catalog new.catalog × (new ≡ record old { catalog = new.catalog })

pub record AtThePlace (place : ℕ) (IsSo : SeatView → SeatView → Type 0) (old new : Fronts) : Type 0 where
  pub seat : SeatView
  pub after : SeatView
  pub is_there : slice_get old.places place ≡ Some seat
  pub is_so : IsSo seat after
  pub same : new ≡ record old { places = slice_set old.places place after }

-- all tickets of a lock are drawn, and this is the one that is never drawn
abbrev pub Wears : SeatView → SeatView → Type 0
Wears old new = new ≡ worn old

pub record IsSpent (number : ℕ) (old new : Fronts) : Type 0 where
  pub number_is : number ≡ last_ticket
  pub at : AtTheRouter Wears old new ⊎ (AtTheCatalog Wears old new ⊎ ((place : ℕ) × AtThePlace place Wears old new))

-- ---- one entry

abbrev pub SharedStep : SharedScene → DeskEntry → SharedScene → Type 0
SharedStep old (Routed call told) new = AtTheRouter (RouterTurn call told) old.fronts new.fronts × (new.cursor ≡ old.cursor)
SharedStep old (Looked joined call told) new = AtTheCatalog (CatalogTurn joined call told) old.fronts new.fronts × (new.cursor ≡ old.cursor)
SharedStep old (Turned after found) new =
    AtTheCatalog (CatalogTurn false (NextUsed after) (At found)) old.fronts new.fronts
    × (new.cursor ≡ record old.cursor { ticked = place_or after found })
SharedStep old (Resumed last) new = (last ≡ old.cursor.last) × (new ≡ old)
SharedStep old (Held hold) new = AtThePlace hold.at.place (HoldsThere hold) old.fronts new.fronts × (new.cursor ≡ record old.cursor { last = Some hold.at })
SharedStep old (Stirred at before after failed) new = AtThePlace at.place (StirsThere before after failed) old.fronts new.fronts × (new.cursor ≡ old.cursor)
SharedStep old (Halted at state) new = AtThePlace at.place (HaltsThere state) old.fronts new.fronts × (new.cursor ≡ old.cursor)
SharedStep old (Missed at kept) new = AtThePlace at.place (MissesThere at kept) old.fronts new.fronts × (new.cursor ≡ old.cursor)
SharedStep old (Spent number) new = IsSpent number old.fronts new.fronts × (new.cursor ≡ old.cursor)

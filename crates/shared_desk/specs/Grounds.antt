-- What contracts see of the ground of one caller of many, and what holds of it.
use Rattle.std.specs.Prelude.{◌≡◌, ◌<◌, ℕ, Bool, List, length, Option, IfSome}
use Rattle.std.specs.List.{AllZip}
use Rattle.js_model.specs.declared.desk.PlaceAt.{PlaceAt}
use Rattle.js_model.specs.Catalog.{Catalog, CatCall, CatTold}
use Rattle.js_model.specs.Router.{RouteCall, RouteTold}
use Rattle.js_api.specs.declared.fault.DeskFault.{DeskFault}
use Rattle.js_api.specs.declared.fault.DeskFault.TheVariants as faults
use Rattle.js_api.specs.Entries.{DeskEntry}
use Rattle.desk_ground.specs.Grounds.{Phase, Setting}
use Rattle.turn_lock.specs.Calls.{left, worn}
use Rattle.turn_lock.specs.Ruled.{last_ticket}
use Rattle.turn_lock.specs.Seats.{SeatView}
use Rattle.hub_fronts.specs.Fronts.{SharedScene}
use Rattle.hub_fronts.specs.Making.{SharedMade}
use Rattle.hub_fronts.specs.Stepping.{CatalogTurn}
use Rattle.hub_router.specs.Calls.{IsCalled, is_own}
use Rattle.desk_places.specs.declared.turn.Turn.{Turn}
use Rattle.desk_places.specs.Turns.{phase_of}
use Rattle.shared_desk.specs.declared.side.Side.{Side}
use Rattle.shared_desk.specs.Hubs.{HubView, IsHub}
use Rattle.shared_desk.specs.Passes.{scene_by}
use Rattle.shared_desk.specs.Seats.{AreThere, IsSeatOf, IsSeated, seat_in, seats_in}
use Rattle.shared_desk.specs.Sides.{IsBeside, kept_in, seat_beside}

-- the hub, what the caller knows, whether it is in a turn of the catalog, and the catalog within that turn
pub record Standing : Type 0 where
  pub hub : HubView
  pub scene : SharedScene
  pub phase : Phase
  pub kept : Catalog

abbrev pub standing : HubView → Option SeatView → Side → List (Option SeatView) → ℕ → Option PlaceAt → Turn → Standing
standing hub router catalog places ticked last turn = record {
  hub = hub;
  scene = scene_by (seat_in router) (seat_beside catalog) places ticked last;
  phase = phase_of turn;
  kept = kept_in catalog;
}

-- each seat of the caller is there, and is one of the hub, and its last hold was at one of the places
pub record IsGrounded (hub : HubView) (seat : Option SeatView) (side : Side) (row : List (Option SeatView)) (last : Option PlaceAt) (turn : Turn) : Type 0 where
  pub is_hub : IsHub hub
  pub router : IsSeated hub.router seat
  pub catalog : IsBeside hub.catalog turn side
  pub there : AreThere row
  pub places : AllZip IsSeatOf hub.places (seats_in row)
  pub within : IfSome last (λ (at : PlaceAt). at.place < length hub.places)

-- ---- what the calls of a desk rest on

-- the entries led from the one to the other, over the same hub
abbrev pub HubMade : Standing → List DeskEntry → Standing → Type 0
HubMade old entries new = SharedMade old.scene entries new.scene × (new.hub ≡ old.hub)

-- open are the sessions that the caller's seat opened at the router and did not close
abbrev pub setting_of : Standing → Setting
setting_of s = record { opened = is_own s.scene.fronts.router; places = length s.hub.places }

-- Each collect takes a ticket of the router, so that no more of them may follow than tickets are left
abbrev pub collects_left : Standing → ℕ
collects_left s = left s.scene.fronts.router

-- ---- a call of the router

abbrev pub with_router : Standing → SeatView → Standing
with_router s seat = record s { scene = record s.scene { fronts = record s.scene.fronts { router = seat } } }

-- it was made in a turn of the caller's seat, and all else is as it was
pub record IsRoutedBy (call : RouteCall) (told : RouteTold) (old new : Standing) : Type 0 where
  pub called : IsCalled call told old.scene.fronts.router new.scene.fronts.router
  pub same : new ≡ with_router old new.scene.fronts.router

-- or it was not, since all tickets of the router are drawn
pub record IsUnrouted (fault : DeskFault) (old new : Standing) : Type 0 where
  pub fault_is : fault ≡ faults.Worn last_ticket
  pub same : new ≡ with_router old (worn old.scene.fronts.router)

-- ---- a call of the catalog

abbrev pub with_catalog : Standing → SeatView → Standing
with_catalog s seat = record s { scene = record s.scene { fronts = record s.scene.fronts { catalog = seat } } }

-- it was made in a turn of the caller's seat, and all else is as it was
pub record IsLookedBy (joined : Bool) (call : CatCall) (told : CatTold) (old new : Standing) : Type 0 where
  pub turn : CatalogTurn joined call told old.scene.fronts.catalog new.scene.fronts.catalog
  pub same : new ≡ with_catalog old new.scene.fronts.catalog

-- or it was not, since all tickets of the catalog are drawn
pub record IsUnlooked (fault : DeskFault) (old new : Standing) : Type 0 where
  pub fault_is : fault ≡ faults.Worn last_ticket
  pub same : new ≡ with_catalog old (worn old.scene.fronts.catalog)

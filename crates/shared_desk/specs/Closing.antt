-- What is left of a hub: for each place one history, which all its callers share, and its volume, to which all that was made was brought as far as it could be.
use Rattle.std.specs.Prelude.{◌≡◌, ◌++◌, ℕ, suc, List, [], ◌∷◌, map, Option}
use Rattle.js_model.specs.declared.stream.State.{State}
use Rattle.js_model.specs.Router.{Router}
use Rattle.place_engine.specs.Stepping.{Image, Seen}
use Rattle.histories.specs.Entries.{Entry, OfPlace, SeatId}
use Rattle.turn_lock.specs.Seats.{LockView, SeatView}
use Rattle.hub_fronts.specs.Fronts.{SharedScene}
use Rattle.hub_place.specs.Kinds.{IsHubPlace}
use Rattle.hub_place.specs.Laws.{IsLastingOf}
use Rattle.hub_router.specs.Kinds.{RouterIs}
use Rattle.desk_places.specs.Closing.{AreClosed}
use Rattle.desk_places.specs.declared.faults.Closed.{Closed}
use Rattle.shared_desk.specs.Histories.{AreAllOf}
use Rattle.shared_desk.specs.Hubs.{HubView}
use Rattle.shared_desk.specs.Passes.{seats_at}

-- ---- the places

-- Of a kind of place: what contracts see of it, its volume, which state an image holds, what reads of a volume give and what a crash may have left of it, its
-- moment, which states it may hold, and what a call may make of it.
module _ {P V : Type 0} (seen : P → Seen) (vol : P → V) (holds : Image → State → Type 0) (reads : V → Image → Type 0) (left : V → ℕ → Image → Type 0) (clock : V → ℕ)
    (base : Option ℕ → V → State → Type 0) (keeps : V → V → Type 0) where
  -- each image that a crash may leave of this volume holds what outlives a crash of the state behind a beginning of this history, with all of it that is
  -- confirmed
  abbrev pub LeavesOf : State → List Entry → State → V → Type 0
  LeavesOf old history new end = (image : Image) → left end (clock end) image → (l : State) × holds image l × IsLastingOf old history new l

  -- The place of this lock, and its port, stand for a history of all these seats, and its volume may leave what is left of that
  pub record EndsPlace (of : LockView) (seats : List SeatView) (place : P) (port : SeatView) (end : V) : Type 0 where
    pub history : List Entry
    pub all : AreAllOf seats history
    pub state : State
    pub faults : ℕ
    pub id : SeatId
    pub opening : of.opening ≡ OfPlace state faults id
    pub stands : IsHubPlace holds left clock base keeps state faults id history (seen place).place (vol place) port
    pub leaves : LeavesOf state history (seen place).place.state end

  -- so it is with each place from a number on
  abbrev pub EndEach : ℕ → List LockView → List SharedScene → List P → List SeatView → List V → Type 0
  EndEach n [] passes [] [] [] = Unit {0}
  EndEach n [] passes [] [] (end ∷ ends) = ⊥
  EndEach n [] passes [] (port ∷ ports) ends = ⊥
  EndEach n [] passes (place ∷ places) ports ends = ⊥
  EndEach n (of ∷ locks) passes [] ports ends = ⊥
  EndEach n (of ∷ locks) passes (place ∷ places) [] ends = ⊥
  EndEach n (of ∷ locks) passes (place ∷ places) (port ∷ ports) [] = ⊥
  EndEach n (of ∷ locks) passes (place ∷ places) (port ∷ ports) (end ∷ ends) =
      EndsPlace of (seats_at n passes) place port end × EndEach (suc n) locks passes places ports ends

  -- ---- the router

  -- there was one history of the router, of all passes and of all ports
  pub record EndsRouter (of : LockView) (passes : List SharedScene) (ports : List SeatView) : Type 0 where
    pub history : List Entry
    pub router : Router
    pub all : AreAllOf (ports ++ map (λ (pass : SharedScene). pass.fronts.router) passes) history
    pub stands : RouterIs of.opening history router

  -- ---- all

  -- The places of the hub went through their histories, and then they were flushed in their order, which left these volumes and the first failure
  pub record ClosesHub (hub : HubView) (passes : List SharedScene) (closed : Closed V) : Type 0 where
    pub row : List P
    pub ports : List SeatView
    pub closes : AreClosed seen vol holds reads left clock base keeps row closed.vols.items closed.failed
    pub places : EndEach 0 hub.places passes row ports closed.vols.items
    pub router : EndsRouter hub.router passes ports

-- What a desk of one caller stands on, and how its entries lead from one state of it to another.
use Rattle.std.specs.Prelude.{◌≡◌, ◌≢◌, ◌≤◌, ℕ, Bool, true, false, List, [], ◌∷◌, map, Option, None, Some, slice_get, slice_set}
use Rattle.js_base.specs.Bytes.{Bytes}
use Rattle.js_base.specs.Causes.{Rose}
use Rattle.js_base.specs.declared.out.Out.{Out}
use Rattle.js_model.specs.declared.stream.State.{State}
use Rattle.js_model.specs.declared.stream.State.TheVariants.{Vacant, Live}
use Rattle.js_model.specs.declared.entry.PlaceEntry.{PlaceEntry}
use Rattle.js_model.specs.declared.entry.PlaceEntry.TheVariants.{Step, Deliver, Broken}
use Rattle.js_model.specs.declared.desk.PlaceAt.{PlaceAt}
use Rattle.js_model.specs.declared.kept_place.KeptPlace.{KeptPlace}
use Rattle.js_model.specs.Events.{kept_incarnation}
use Rattle.js_model.specs.Runs.{RunFrom, total_of}
use Rattle.js_model.specs.Limits.{last_place}
use Rattle.js_model.specs.PlaceStates.{VolumeAt, PlaceIn}
use Rattle.js_model.specs.Router.{Router, RouteTold, IsRoute, Publish, Interest, Taken, Listens, NoMemory, empty_router}
use Rattle.js_model.specs.Catalog.{Catalog, catalog_of, IsCatalogCall, NextUsed, At}
use Rattle.js_api.specs.Entries.{Reading, Sending, Sent, Short, Hold, entries_in, DeskEntry, Routed, Looked, Turned, Resumed, Held, Stirred, Halted, Missed, Spent}
use Rattle.js_api.specs.Outputs.{outs_of}
use Rattle.js_api.specs.Rooms.{FindNoRoom, MayFindNoRoom}

-- ---- what there is

-- what callers share
pub record World : Type 0 where
  pub router : Router
  pub catalog : Catalog
  pub places : List PlaceIn

-- what a caller has of its own: the place of its last tick, and the place of its last hold with the incarnation that was asked for there
pub record Cursor : Type 0 where
  pub ticked : ℕ
  pub last : Option PlaceAt

pub record Scene : Type 0 where
  pub world : World
  pub cursor : Cursor

-- ---- the opening

-- the stream of a place, as the catalog is told of it
abbrev pub stream_in : State → Option (Bytes × List Bytes)
stream_in (Vacant i) = None
stream_in (Live s) = Some (s.config.name, s.config.subjects)

-- what the catalog begins with for a place
abbrev pub kept_in : PlaceIn → KeptPlace
kept_in place = record { incarnation = kept_incarnation place.state; stream = stream_in place.state }

-- no session was opened, the catalog has the streams of the places, and the first tick goes to the first used place
abbrev pub opening : List PlaceIn → Scene
opening places = record {
  world = record { router = empty_router; catalog = catalog_of (map kept_in places); places = places };
  cursor = record { ticked = last_place; last = None };
}

-- the place that was found, or the one before
abbrev pub place_or : ℕ → Option PlaceAt → ℕ
place_or before None = before
place_or before (Some at) = at.place

-- ---- one hold

-- the last of these entries is broken
abbrev pub is_broken : List PlaceEntry → Bool
is_broken [] = false
is_broken (Step seat e now reply outs unsaid ∷ more) = is_broken more
is_broken (Deliver seat now listening d outs ∷ more) = is_broken more
is_broken (Broken seat now call ∷ more) = true

-- a volume that failed stops its place, at the count that it has then, which rose
abbrev pub Stops : (failed : Bool) → VolumeAt → VolumeAt → Option ℕ → Type 0
Stops true before after stopped = (stopped ≡ Some after.faults) × Rose before.faults after.faults
Stops false before after stopped = stopped ≡ None

-- its counts of faults and of refusals, its calls and its generations do not fall
pub record IsLater (before after : VolumeAt) : Type 0 where
  pub faults : before.faults ≤ after.faults
  pub refusals : before.refusals ≤ after.refusals
  pub moments : before.moment ≤ after.moment
  pub generations : before.generation ≤ after.generation

-- the entries of the hold lead from what stood at its place to what stands there
pub record IsHeld (hold : Hold) (old new : PlaceIn) : Type 0 where
  pub going : old.stopped ≡ None
  pub was : old.state ≡ hold.before
  pub counted : old.stored ≡ hold.stored
  pub steps : RunFrom old.stored hold.before hold.steps hold.between
  pub short : FindNoRoom hold.steps → MayFindNoRoom hold
  pub deliveries : RunFrom (total_of old.stored hold.before hold.steps hold.between steps) hold.between hold.deliveries hold.after
  pub ends : is_broken hold.steps ≡ true → hold.deliveries ≡ []
  pub is_state : new.state ≡ hold.after
  pub stored : new.stored ≤ total_of (total_of old.stored hold.before hold.steps hold.between steps) hold.between hold.deliveries hold.after deliveries
  pub stops : Stops (is_broken (entries_in hold)) hold.volume_before hold.volume_after new.stopped
  pub volume_was : old.volume ≡ hold.volume_before
  pub volume_is : new.volume ≡ hold.volume_after
  pub before_between : IsLater hold.volume_before hold.volume_between
  pub between_after : IsLater hold.volume_between hold.volume_after

-- the volume of a place was called without an entry of its run
pub record IsStirred (before after : VolumeAt) (failed : Bool) (old new : PlaceIn) : Type 0 where
  pub going : old.stopped ≡ None
  pub state : new.state ≡ old.state
  pub stored : new.stored ≡ old.stored
  pub stops : Stops failed before after new.stopped
  pub volume_was : old.volume ≡ before
  pub volume_is : new.volume ≡ after
  pub later : IsLater before after

-- the router told so who listens
abbrev pub AreRead : Router → List Reading → Type 0
AreRead router [] = Unit {0}
AreRead router (reading ∷ more) = IsRoute router (Interest reading.subject reading.group) (Listens reading.heard) router × AreRead router more

-- an output was taken, or found no memory
pub data IsTried : RouteTold → Bool → Type 0 where
  WasTaken : (count : ℕ) → IsTried (Taken count) true
  WasShort : IsTried NoMemory false

-- each output is tried in order; one that finds no memory does not keep the next from being tried
abbrev pub AreTried : Router → List Out → List Bool → Router → Type 0
AreTried old [] [] new = old ≡ new
AreTried old [] (taken ∷ more) new = ⊥
AreTried old (out ∷ outs) [] new = ⊥
AreTried old (out ∷ outs) (taken ∷ more) new =
    (told : RouteTold) × (mid : Router) × IsTried told taken × IsRoute old (Publish out None) told mid × AreTried mid outs more new

-- all were taken, or some found no memory
abbrev pub sending_of : List Bool → Sending
sending_of [] = Sent
sending_of (true ∷ more) = sending_of more
sending_of (false ∷ more) = Short

-- what a hold makes of a desk that is alone: who listens is read from the router as it was, and then all that the hold sends is routed
pub record IsHeldAlone (hold : Hold) (old new : World) : Type 0 where
  pub place : PlaceIn
  pub after : PlaceIn
  pub taken : List Bool
  pub is_there : slice_get old.places hold.at.place ≡ Some place
  pub held : IsHeld hold place after
  pub read : AreRead old.router hold.readings
  pub tried : AreTried old.router (outs_of hold.before (entries_in hold)) taken new.router
  pub sending : hold.sending ≡ sending_of taken
  pub places : new.places ≡ slice_set old.places hold.at.place after
  pub catalog : new.catalog ≡ old.catalog

-- of one place its volume was called, and all else is as it was
pub record IsStirredAlone (at : PlaceAt) (before after : VolumeAt) (failed : Bool) (old new : World) : Type 0 where
  pub place : PlaceIn
  pub stirred : PlaceIn
  pub is_there : slice_get old.places at.place ≡ Some place
  pub is_stirred : IsStirred before after failed place stirred
  pub places : new.places ≡ slice_set old.places at.place stirred
  pub router : new.router ≡ old.router
  pub catalog : new.catalog ≡ old.catalog

-- the place is stopped, and this stands there
pub record IsHalted (at : PlaceAt) (state : State) (places : List PlaceIn) : Type 0 where
  pub place : PlaceIn
  pub count : ℕ
  pub is_there : slice_get places at.place ≡ Some place
  pub stopped : place.stopped ≡ Some count
  pub state_is : place.state ≡ state

-- the place is not stopped, and keeps another incarnation
pub record IsMissed (at : PlaceAt) (kept : ℕ) (places : List PlaceIn) : Type 0 where
  pub place : PlaceIn
  pub is_there : slice_get places at.place ≡ Some place
  pub going : place.stopped ≡ None
  pub kept_is : kept_incarnation place.state ≡ kept
  pub other : kept ≢ at.incarnation

-- ---- one entry

-- What an entry makes of a desk that is alone. Nobody else enters a turn there, so none is worn, and each call of the catalog is joined to the
-- one before.
abbrev pub SoloStep : Scene → DeskEntry → Scene → Type 0
SoloStep old (Routed call told) new =
    IsRoute old.world.router call told new.world.router × (new ≡ record old { world = record old.world { router = new.world.router } })
SoloStep old (Looked joined call told) new =
    IsCatalogCall old.world.catalog call told new.world.catalog × (new ≡ record old { world = record old.world { catalog = new.world.catalog } })
SoloStep old (Turned after found) new =
    (after ≡ old.cursor.ticked) × IsCatalogCall old.world.catalog (NextUsed after) (At found) old.world.catalog
    × (new ≡ record old { cursor = record old.cursor { ticked = place_or after found } })
SoloStep old (Resumed last) new = (last ≡ old.cursor.last) × (new ≡ old)
SoloStep old (Held hold) new = IsHeldAlone hold old.world new.world × (new.cursor ≡ record old.cursor { last = Some hold.at })
SoloStep old (Stirred at before after failed) new = IsStirredAlone at before after failed old.world new.world × (new.cursor ≡ old.cursor)
SoloStep old (Halted at state) new = IsHalted at state old.world.places × (new ≡ old)
SoloStep old (Missed at kept) new = IsMissed at kept old.world.places × (new ≡ old)
SoloStep old (Spent number) new = ⊥

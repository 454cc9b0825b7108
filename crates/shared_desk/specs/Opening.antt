-- What a hub begins with, this server's own: a place opened on each volume, and a pass for each worker.
use Rattle.std.specs.Prelude.{◌≡◌, ◌⊎◌, ◌+◌, ℕ, List, [], length, map, Option}
use Rattle.std.specs.List.{AllByRecursion, AllZip}
use Rattle.atomic_table.specs.Seated.{TableId}
use Rattle.js_model.specs.declared.stream.State.{State}
use Rattle.js_model.specs.Catalog.{Catalog, catalog_of}
use Rattle.catalog.specs.Apart.{IsApart}
use Rattle.place_engine.specs.Stepping.{Image, Seen}
use Rattle.place_engine.specs.declared.faults.OpenFault.{OpenFault}
use Rattle.place_engine.specs.Preparing.{RoomCauses}
use Rattle.js_api.specs.Worlds.{kept_in}
use Rattle.histories.specs.Entries.{OfPlace, OfRouter, OfCatalog}
use Rattle.turn_lock.specs.Seats.{LockView, SeatView}
use Rattle.hub_fronts.specs.Fronts.{SharedScene}
use Rattle.hub_place.specs.Kinds.{PlaceIs, opening_of}
use Rattle.desk_places.specs.Places.{places_by}
use Rattle.desk_places.specs.Opening.{FailsToOpen, OpensOn}
use Rattle.desk_places.specs.declared.faults.HubFault.{HubFault}
use Rattle.desk_places.specs.declared.faults.HubFault.TheVariants.{Open, Conflict, NoMemory}
use Rattle.shared_desk.specs.Hubs.{HubView}
use Rattle.shared_desk.specs.Passes.{AreAllPasses, IsNewPass}

-- the catalog of the streams of places
abbrev pub catalog_by : {P : Type 0} → (P → Seen) → List P → Catalog
catalog_by seen row = catalog_of (map kept_in (places_by seen row))

-- a lock round a place that was just opened: the place sends by a seat of the router of this lock, and each worker has a seat there
pub record IsLocked {P : Type 0} (seen : P → Seen) (router : TableId) (workers : ℕ) (place : P) (of : LockView) : Type 0 where
  pub port : ℕ
  pub opening : of.opening ≡ OfPlace (seen place).place.state (seen place).place.volume.faults (record { lock = router; number = port })
  pub seats : of.seats ≡ workers

-- Of a kind of place: what contracts see of it, its volume, which state an image holds, what reads of a volume give and what a crash may have left of it, its
-- moment, its faults and why there may be no room, which states it may hold, to which states a place may be opened on it and why not, and what a call may make of it.
module _ {P V : Type 0} (seen : P → Seen) (vol : P → V) (holds : Image → State → Type 0) (reads : V → Image → Type 0) (left : V → ℕ → Image → Type 0) (clock faults : V → ℕ) (causes : RoomCauses V)
    (base : Option ℕ → V → State → Type 0) (opens : V → State → Type 0) (refuses : V → OpenFault → Type 0) (keeps : V → V → Type 0) where
  -- A place was opened on each volume, no two of their streams share a name or have subjects that meet, and the histories of the hub open so. Each
  -- worker has a pass, which has seen nothing, and these are all passes of the hub.
  pub record OpensHub (before : List V) (workers : ℕ) (hub : HubView) (passes : List SharedScene) : Type 0 where
    pub row : List P
    pub opened : AllZip (OpensOn seen vol holds reads left clock faults causes base opens refuses keeps) before row
    pub apart : IsApart (catalog_by seen row)
    pub router : hub.router.opening ≡ OfRouter
    pub router_seats : hub.router.seats ≡ workers + length row
    pub catalog : hub.catalog.opening ≡ OfCatalog (catalog_by seen row)
    pub catalog_seats : hub.catalog.seats ≡ workers
    pub places : AllZip (IsLocked seen hub.router.lock workers) row hub.places
    pub count : length passes ≡ workers
    pub all : AreAllPasses hub passes
    pub new : AllByRecursion IsNewPass passes

  -- it was opened on some volume
  abbrev pub WasOpened : P → Type 0
  WasOpened place = (before : V) × OpensOn seen vol holds reads left clock faults causes base opens refuses keeps before place

  -- ---- where memory ran out for a lock

  -- A place that was opened came back as it was, or out of a lock in whose history nothing stood: what it was opened to stands there, and each image that
  -- a crash may leave of its volume holds that.
  abbrev pub ComesBack : P → P → Type 0
  ComesBack was is =
      (is ≡ was) ⊎ ((port : SeatView) × PlaceIs holds left clock base keeps (opening_of (seen was).place port) [] (seen is).place (vol is) port)

  -- all places were opened, and their locks were ended again
  pub record UnlocksAll (before after : List V) : Type 0 where
    pub row : List P
    pub opened : AllZip (OpensOn seen vol holds reads left clock faults causes base opens refuses keeps) before row
    pub back : List P
    pub came : AllZip ComesBack row back
    pub after_are : after ≡ map vol back

  -- as a desk of one caller does; or memory ran out for a lock
  abbrev pub FailsToOpenHub : List V → HubFault V → Type 0
  FailsToOpenHub before (Open place fault back) = FailsToOpen seen vol holds reads left clock faults causes base opens refuses keeps before (Open place fault back)
  FailsToOpenHub before (Conflict first second back) = FailsToOpen seen vol holds reads left clock faults causes base opens refuses keeps before (Conflict first second back)
  FailsToOpenHub before (NoMemory back) = FailsToOpen seen vol holds reads left clock faults causes base opens refuses keeps before (NoMemory back) ⊎ UnlocksAll before back.items

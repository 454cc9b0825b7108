-- What contracts see of the desk of one caller.
use Rattle.std.specs.Prelude.{◌≡◌, ◌≤◌, ℕ, true, List, [], length, Option}
use Rattle.std.specs.List.{AllZip}
use Rattle.js_model.specs.declared.event.What.{What}
use Rattle.js_model.specs.declared.stream.State.{State}
use Rattle.js_model.specs.Router.{is_open}
use Rattle.js_model.specs.Routing.{waiting_for}
use Rattle.js_api.specs.Clients.{Client}
use Rattle.js_api.specs.Entries.{DeskEntry}
use Rattle.js_api.specs.Leading.{Leads}
use Rattle.js_api.specs.Rooms.{AreOutgrown}
use Rattle.js_api.specs.Worlds.{Scene, SoloStep}
use Rattle.desk_ground.specs.Callers.{client_of}
use Rattle.desk_ground.specs.Grounds.{Outside}
use Rattle.desk_ground.specs.declared.caller.Caller.{Caller}
use Rattle.place_engine.specs.Stepping.{Image}
use Rattle.js_desk.specs.Grounds.{Standing}
use Rattle.js_desk.specs.Lasting.{PlacesOutlast, Row}

-- what it stands on, its volumes, and the client of its session
pub record Solo (V : Type 0) : Type 0 where
  pub scene : Scene
  pub vols : List V
  pub client : Client

abbrev pub solo : {V : Type 0} → Standing V → Caller → Solo V
solo ground caller = record { scene = ground.scene; vols = ground.vols; client = client_of caller }

-- its places, and their volumes
abbrev pub row_in : {V : Type 0} → Solo V → Row V
row_in desk = record { places = desk.scene.world.places; vols = desk.vols }

-- Entries lead from the one desk to the other, whose volumes are what the calls of its places may make of those from before; of what the entries made at
-- each place a crash may leave a beginning; and that a log is outgrown is told only where it is so.
abbrev pub DeskMade : {V : Type 0} → (V → V → Type 0) → (Image → State → Type 0) → (V → ℕ → Image → Type 0) → (V → ℕ) → (Option ℕ → V → State → Type 0) → (State → What → Type 0) → Solo V → List DeskEntry → Solo V → Type 0
DeskMade keeps holds left clock base outgrows old entries new =
    Leads SoloStep old.scene entries new.scene × AllZip keeps old.vols new.vols × PlacesOutlast holds left clock base (row_in old) entries (row_in new) × AreOutgrown outgrows entries

-- it is in no turn of the catalog, its open session is open in the router, and there is room for the volumes
pub record IsConsistent {V : Type 0} (ground : Standing V) (caller : Caller) (given_back : List V) (capacity : ℕ) : Type 0 where
  pub outside : ground.phase ≡ Outside
  pub opened : caller.is_open ≡ true → is_open ground.scene.world.router caller.session ≡ true
  pub empty : given_back ≡ []
  pub room : length ground.vols ≤ capacity

-- how many frames wait for the session
abbrev pub frames_left : {V : Type 0} → Solo V → ℕ
frames_left desk = waiting_for desk.scene.world.router desk.client.session

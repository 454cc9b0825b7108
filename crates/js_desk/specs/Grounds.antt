-- What contracts see of the ground of one caller, and what holds of it.
use Rattle.std.specs.Prelude.{◌≡◌, ◌≤◌, ◌<◌, ◌+◌, ◌==◌, ℕ, Bool, false, List, length, Option, None, Some, IsNone, IfSome, slice_get, if◌then◌else◌}
use Rattle.std.specs.List.{AllZip}
use Rattle.js_model.specs.declared.event.What.{What}
use Rattle.js_model.specs.declared.stream.State.{State}
use Rattle.js_model.specs.declared.desk.PlaceAt.{PlaceAt}
use Rattle.js_model.specs.Catalog.{Catalog, Used, Place}
use Rattle.js_model.specs.Events.{kept_incarnation}
use Rattle.js_model.specs.PlaceStates.{PlaceIn}
use Rattle.js_model.specs.Router.{Router, is_open}
use Rattle.place_engine.specs.Stepping.{Image}
use Rattle.js_api.specs.Entries.{DeskEntry}
use Rattle.js_api.specs.Leading.{Leads}
use Rattle.js_api.specs.Rooms.{AreOutgrown}
use Rattle.js_api.specs.Worlds.{Scene, SoloStep}
use Rattle.desk_ground.specs.Grounds.{Phase, Setting}
use Rattle.desk_places.specs.declared.turn.Turn.{Turn}
use Rattle.desk_places.specs.declared.turn.Turn.TheVariants as turns
use Rattle.desk_places.specs.Turns.{phase_of}
use Rattle.js_desk.specs.Lasting.{PlacesOutlast, Row}

-- what there is, the volumes of the places, and whether the caller is in a turn of the catalog
pub record Standing (V : Type 0) : Type 0 where
  pub scene : Scene
  pub vols : List V
  pub phase : Phase

abbrev pub standing : {V : Type 0} → Router → Catalog → List PlaceIn → List V → ℕ → Option PlaceAt → Turn → Standing V
standing router catalog places vols ticked last turn = record {
  scene = record {
    world = record { router = router; catalog = catalog; places = places };
    cursor = record { ticked = ticked; last = last };
  };
  vols = vols;
  phase = phase_of turn;
}

-- its places, and their volumes
abbrev pub row_of : {V : Type 0} → Standing V → Row V
row_of s = record { places = s.scene.world.places; vols = s.vols }

-- Entries lead from the one ground to the other, whose volumes are what the calls of its places may make of those from before; of what the entries made at
-- each place a crash may leave a beginning; and that a log is outgrown is told only where it is so.
abbrev pub SoloMade : {V : Type 0} → (V → V → Type 0) → (Image → State → Type 0) → (V → ℕ → Image → Type 0) → (V → ℕ) → (Option ℕ → V → State → Type 0) → (State → What → Type 0) → Standing V → List DeskEntry → Standing V → Type 0
SoloMade keeps holds left clock base outgrows old entries new =
    Leads SoloStep old.scene entries new.scene × AllZip keeps old.vols new.vols × PlacesOutlast holds left clock base (row_of old) entries (row_of new) × AreOutgrown outgrows entries

-- which sessions are open, and how many places there are
abbrev pub setting_of : Scene → Setting
setting_of scene = record { opened = is_open scene.world.router; places = length scene.world.places }

-- ---- what holds of each place

-- the catalog is still to be told which list of subjects of its stream is kept
abbrev pub is_between : Turn → ℕ → Bool
is_between turns.Outside n = false
is_between turns.Within n = false
is_between (turns.Between place) n = place == n
is_between (turns.Owing place) n = false

-- the catalog is still to be told that its stream was dropped
abbrev pub is_owing : Turn → ℕ → Bool
is_owing turns.Outside n = false
is_owing turns.Within n = false
is_owing (turns.Between place) n = false
is_owing (turns.Owing place) n = place == n

-- if it is not stopped, its stream has one list of subjects
abbrev pub HasOneList : Option Used → Type 0
HasOneList None = Unit {0}
HasOneList (Some used) = used.stopped ≡ false → IsNone used.new_subjects

-- the incarnation that the catalog keeps once it is told all
abbrev pub told_incarnation : Turn → ℕ → Place → ℕ
told_incarnation turn n place = if is_owing turn n then place.incarnation + 1 else place.incarnation

-- the catalog has one list of subjects for the stream there, unless one is still to be dropped
abbrev pub AreSingle : Turn → Catalog → Type 0
AreSingle turn catalog = (n : ℕ) (place : Place) → slice_get catalog n ≡ Some place → is_between turn n ≡ false → HasOneList place.used

-- and the place keeps the incarnation that the catalog keeps, unless it is stopped
abbrev pub AreAgreed : Turn → Catalog → List PlaceIn → Type 0
AreAgreed turn catalog places =
    (n : ℕ) (place : Place) (there : PlaceIn) → slice_get catalog n ≡ Some place → slice_get places n ≡ Some there → there.stopped ≡ None
    → told_incarnation turn n place ≡ kept_incarnation there.state

-- at most 32 places, each with its entry in the catalog, and the last hold was at one of them
pub record IsGrounded (catalog : Catalog) (places : List PlaceIn) (last : Option PlaceAt) (turn : Turn) : Type 0 where
  pub few : length places ≤ 32
  pub same : length catalog ≡ length places
  pub single : AreSingle turn catalog
  pub agreed : AreAgreed turn catalog places
  pub within : IfSome last (λ at. at.place < length places)

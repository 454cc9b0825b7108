-- How the desk of one caller begins.
use Rattle.std.specs.Prelude.{◌≡◌, ℕ, List, map, Option}
use Rattle.std.specs.List.{AllZip}
use Rattle.js_model.specs.declared.stream.State.{State}
use Rattle.catalog.specs.Apart.{IsApart}
use Rattle.place_engine.specs.Stepping.{Image, Seen}
use Rattle.place_engine.specs.declared.faults.OpenFault.{OpenFault}
use Rattle.place_engine.specs.Preparing.{RoomCauses}
use Rattle.js_api.specs.Worlds.{opening}
use Rattle.desk_places.specs.Opening.{OpensOn}
use Rattle.desk_places.specs.Places.{places_by}
use Rattle.js_desk.specs.Solo.{Solo}

-- Of a kind of place: what contracts see of it, its volume, which state an image holds, what reads of a volume give and what a crash may have left of it, its
-- moment, its faults and why there may be no room, which states it may hold, to which states a place may be opened on it and why not, and what a call may make of it.
module _ {P V : Type 0} (seen : P → Seen) (vol : P → V) (holds : Image → State → Type 0) (reads : V → Image → Type 0) (left : V → ℕ → Image → Type 0) (clock faults : V → ℕ) (causes : RoomCauses V)
    (base : Option ℕ → V → State → Type 0) (opens : V → State → Type 0) (refuses : V → OpenFault → Type 0) (keeps : V → V → Type 0) where
  -- a place was opened on each volume, no two of their streams share a name or have subjects that meet, and the desk begins with them
  pub record OpensDesk (before : List V) (desk : Solo V) : Type 0 where
    pub row : List P
    pub opened : AllZip (OpensOn seen vol holds reads left clock faults causes base opens refuses keeps) before row
    pub apart : IsApart desk.scene.world.catalog
    pub scene : desk.scene ≡ opening (places_by seen row)
    pub vols : desk.vols ≡ map vol row

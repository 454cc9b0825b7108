-- Runs over places of one kind.
use Rattle.std.specs.Prelude.{ℕ, List, Option}
use Rattle.js_model.specs.declared.stream.State.{State}
use Rattle.place_engine.specs.declared.faults.OpenFault.{OpenFault}
use Rattle.place_engine.specs.Stepping.{Image, Seen}
use Rattle.place_engine.specs.Preparing.{RoomCauses}
use Rattle.js_api.specs.Entries.{DeskEntry}
use Rattle.desk_places.specs.Closing.{Closes}
use Rattle.desk_places.specs.Opening.{FailsToOpen}
use Rattle.js_desk.specs.Opening.{OpensDesk}
use Rattle.js_desk.specs.Solo.{Solo, DeskMade}
use Rattle.desk_places.specs.declared.faults.Closed.{Closed}
use Rattle.desk_places.specs.declared.faults.HubFault.{HubFault}
use Rattle.server.specs.declared.words.NamedStream.{NamedStream}
use Rattle.server.specs.Ending.{IsStarved, IsUnopened, IsAttended, PipeEnds}
use Rattle.server.specs.Outside.{Outside}

-- Of a kind of place: what contracts see of it, its volume, which state an image holds, what reads of a volume give and what a crash may have left of it, its
-- moment, its faults and why there may be no room, which states it may hold, to which states a place may be opened on it and why not, and what a call may make of it.
module _ {P V : Type 0} (seen : P → Seen) (vol : P → V) (holds : Image → State → Type 0) (reads : V → Image → Type 0) (left : V → ℕ → Image → Type 0) (clock faults : V → ℕ) (causes : RoomCauses V)
    (base : Option ℕ → V → State → Type 0) (opens : V → State → Type 0) (refuses : V → OpenFault → Type 0) (keeps : V → V → Type 0) where
  -- as what a desk of such places is opened on volumes
  abbrev pub Opens : List V → Solo V → Type 0
  Opens = OpensDesk seen vol holds reads left clock faults causes base opens refuses keeps

  -- why none is
  abbrev pub Refuses : List V → HubFault V → Type 0
  Refuses = FailsToOpen seen vol holds reads left clock faults causes base opens refuses keeps

  -- what entries make of it
  abbrev pub Made : Solo V → List DeskEntry → Solo V → Type 0
  Made = DeskMade keeps holds left clock base causes.outgrows_log

  -- what is left of it at its closing
  abbrev pub Leaves : Solo V → Closed V → Type 0
  Leaves desk closed = Closes seen vol holds reads left clock base keeps desk.vols desk.scene.world.places closed

  -- how a run of `pipe` ends
  abbrev pub Ends : Option NamedStream → ℕ → List V → List V → Outside → Outside → Type 0
  Ends = PipeEnds Opens Refuses Made Leaves

  -- a run ended for want of memory before the volumes were touched
  abbrev pub EndsStarved : ℕ → List V → List V → Outside → Outside → Type 0
  EndsStarved = IsStarved Opens Refuses Made Leaves

  -- a run ended since no desk was opened
  abbrev pub EndsUnopened : ℕ → List V → List V → Outside → Outside → Type 0
  EndsUnopened = IsUnopened Opens Refuses Made Leaves

  -- a run ended with the closing of its desk
  abbrev pub EndsAttended : Option NamedStream → ℕ → List V → List V → Outside → Outside → Type 0
  EndsAttended = IsAttended Opens Refuses Made Leaves

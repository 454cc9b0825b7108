-- What a run makes of its volumes.
use Rattle.std.specs.Prelude.{ℕ, List, Option}
use Rattle.std.specs.List.{AllZip}
use Rattle.js_model.specs.declared.stream.State.{State}
use Rattle.place_engine.specs.declared.faults.OpenFault.{OpenFault}
use Rattle.place_engine.specs.Stepping.{Image, Seen}
use Rattle.place_engine.specs.Preparing.{RoomCauses}
use Rattle.server.specs.declared.words.NamedStream.{NamedStream}
use Rattle.server.specs.Kinds.{Ends}
use Rattle.server.specs.Outside.{Outside}

-- Of a kind of place: what contracts see of it, its volume, which state an image holds, what reads of a volume give and what a crash may have left of it, its
-- moment, its faults and why there may be no room, which states it may hold, to which states a place may be opened on it and why not, and what a call may make of it.
module _ {P V : Type 0} (seen : P → Seen) (vol : P → V) (holds : Image → State → Type 0) (reads : V → Image → Type 0) (left : V → ℕ → Image → Type 0) (clock faults : V → ℕ) (causes : RoomCauses V)
    (base : Option ℕ → V → State → Type 0) (opens : V → State → Type 0) (refuses : V → OpenFault → Type 0) (keeps : V → V → Type 0) where
  -- each volume comes back in its place, as the calls of its place may have left it
  abbrev pub LawKept : Type 0
  LawKept = (stream : Option NamedStream) (status : ℕ) (vols_old vols_new : List V) (old new : Outside)
      → Ends seen vol holds reads left clock faults causes base opens refuses keeps stream status vols_old vols_new old new
      → AllZip keeps vols_old vols_new

-- That the volumes which a run is handed can be read.
use Rattle.std.specs.Prelude.{List, map}
use Rattle.std.specs.List.{AllZip}
use Rattle.js_model.specs.declared.kept_place.KeptPlace.{KeptPlace}
use Rattle.js_model.specs.declared.stream.State.{State}
use Rattle.js_model.specs.Events.{kept_incarnation}
use Rattle.catalog.specs.Conflicts.{AreWithoutConflict}
use Rattle.place_engine.specs.Stepping.{Image}
use Rattle.js_api.specs.Worlds.{stream_in}

-- what a catalog is told of a place in this state
abbrev pub kept_of : State → KeptPlace
kept_of state = record { incarnation = kept_incarnation state; stream = stream_in state }

-- Of a kind of place: which state an image of its volume holds, and what reads of a volume give.
module _ {V : Type 0} (holds : Image → State → Type 0) (reads : V → Image → Type 0) where
  -- reads of the volume give something that holds this state
  pub record IsReadable (vol : V) (state : State) : Type 0 where
    pub image : Image
    pub read : reads vol image
    pub held : holds image state

  -- so it is with each of the volumes, and no two of their streams share a name or have subjects that meet
  pub record AreReadable (vols : List V) : Type 0 where
    pub states : List State
    pub each : AllZip IsReadable vols states
    pub apart : AreWithoutConflict (map kept_of states)

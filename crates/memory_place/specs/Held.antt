-- What is held in memory for a place, and for what it stands.
use Rattle.std.specs.Prelude.{◌^◌, ◌<◌}
use Rattle.js_model.specs.declared.stream.State.{State}
use Rattle.js_model.specs.declared.stream.State.TheVariants.{Vacant, Live}
use Rattle.memory_place.specs.declared.slot.Held.{Held}
use Rattle.memory_place.specs.declared.slot.Held.TheVariants.{Nothing, Stream}

abbrev pub state_of : Held → State
state_of (Nothing last) = Vacant last
state_of (Stream stream) = Live stream

-- the last incarnation is below 2 ^ 62
abbrev pub IsInRange : Held → Type 0
IsInRange (Nothing last) = last < 2 ^ 62
IsInRange (Stream stream) = Unit {0}

-- A place in memory: what is seen of it, and why a call fails there.
use Rattle.std.specs.Prelude.{◌≡◌, ◌≢◌, ℕ, true, [], Option}
use Rattle.js_model.specs.declared.stream.State.{State}
use Rattle.js_model.specs.declared.stream.State.TheVariants.{Vacant, Live}
use Rattle.js_model.specs.declared.event.Event.{Event}
use Rattle.js_model.specs.declared.event.What.{What}
use Rattle.js_model.specs.declared.event.What.TheVariants.{Tick}
use Rattle.js_model.specs.Events.{kept_incarnation}
use Rattle.js_model.specs.PlaceStates.{in_memory}
use Rattle.place_engine.specs.Preparing.{RoomCauses}
use Rattle.place_engine.specs.Stepping.{Image, Seen}
use Rattle.place_engine.specs.declared.faults.Left.{Left}
use Rattle.place_engine.specs.declared.faults.Left.TheVariants.{Nothing, Ticked, Unsaid}
use Rattle.place_engine.specs.declared.faults.OpenFault.{OpenFault}
use Rattle.place_engine.specs.declared.faults.OpenFault.TheVariants as opening
use Rattle.place_engine.specs.declared.faults.PlaceFault.{PlaceFault}
use Rattle.place_engine.specs.declared.faults.PlaceFault.TheVariants.{NoMemory, StoreFault, Stopped, Gone, Worn}

-- the state of a place, and its volume
pub record Contents (V : Type 0) : Type 0 where
  pub state : State
  pub vol : V

-- there is room for all that is asked, and nothing waits; a crash leaves nothing, so that its volume holds no state
abbrev pub seen_of : State → Seen
seen_of state = record { place = in_memory state; is_base = λ b. ⊥; waiting = []; room = λ what. true; left_since = λ t image. ⊥ }

-- no image of a volume holds a state
abbrev pub holds_nothing : Image → State → Type 0
holds_nothing image state = ⊥

-- whatever its volume is, it opens to a place that never had a stream
abbrev pub opens_vacant : {V : Type 0} → V → State → Type 0
opens_vacant vol state = state ≡ Vacant 0

-- only memory may be wanting for that
abbrev pub refuses_in_memory : {V : Type 0} → V → OpenFault → Type 0
refuses_in_memory vol fault = fault ≡ opening.NoMemory

-- nothing is told of what reads of its volume give and what it holds, of what a crash leaves of it, of its moment and of its faults
abbrev pub reads_nothing : {V : Type 0} → V → Image → Type 0
reads_nothing vol image = ⊥

abbrev pub bases_on_nothing : {V : Type 0} → Option ℕ → V → State → Type 0
bases_on_nothing stopped vol b = ⊥

abbrev pub leaves_nothing : {V : Type 0} → V → ℕ → Image → Type 0
leaves_nothing vol t image = ⊥

abbrev pub counts_none : {V : Type 0} → V → ℕ
counts_none vol = 0

-- there always is room
abbrev pub never_short : {V : Type 0} → RoomCauses V
never_short = record { refusals = counts_none; outgrows_log = λ state what. ⊥ }

-- what a step leaves that finds no memory once time has passed: the latter if there is a stream
abbrev pub left_of : State → Left
left_of (Vacant last) = Nothing
left_of (Live stream) = Ticked

-- A step that finds no memory does nothing, or lets time pass if there is a stream; a tick does nothing then
abbrev pub MayLeave : State → What → Left → Type 0
MayLeave old what Nothing = Unit {0}
MayLeave (Vacant last) what Ticked = ⊥
MayLeave (Live s) what Ticked = what ≢ Tick
MayLeave old what (Unsaid refused) = ⊥

-- It is gone exactly if the event is for another incarnation. Memory is asked for only if it is for this one. In memory no store fails, stops a place
-- or wears out.
abbrev pub HasCause : State → Event → PlaceFault → Type 0
HasCause old event (NoMemory left) = (event.incarnation ≡ kept_incarnation old) × MayLeave old event.what left
HasCause old event StoreFault = ⊥
HasCause old event (Stopped count) = ⊥
HasCause old event (Gone kept) = (event.incarnation ≢ kept_incarnation old) × (kept ≡ kept_incarnation old)
HasCause old event (Worn refused) = ⊥

-- of a delivery: memory ran out, and nothing was delivered
abbrev pub IsWantOfMemory : PlaceFault → Type 0
IsWantOfMemory (NoMemory Nothing) = Unit {0}
IsWantOfMemory (NoMemory Ticked) = Unit {0}
IsWantOfMemory (NoMemory (Unsaid refused)) = ⊥
IsWantOfMemory StoreFault = ⊥
IsWantOfMemory (Stopped count) = ⊥
IsWantOfMemory (Gone kept) = ⊥
IsWantOfMemory (Worn refused) = ⊥

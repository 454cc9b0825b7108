-- What a place promises of the preparing of an event, in memory and on a volume alike: room is made for what the event may need, if there is some, and nothing
-- else is done.
use Rattle.std.specs.Prelude.{◌≡◌, ◌⊎◌, ◌≤◌, ℕ, false, [], None, Some, Result, Ok, Err}
use Rattle.js_base.specs.Causes.{Rose}
use Rattle.js_model.specs.declared.stream.State.{State}
use Rattle.js_model.specs.declared.event.What.{What}
use Rattle.js_model.specs.Events.{asks_room}
use Rattle.js_model.specs.Runs.{is_few}
use Rattle.place_engine.specs.Flushing.{KeepsState}
use Rattle.place_engine.specs.Stepping.{Elapses, Image, IsStopped, KeepsBase, LeavesVolume, Rests, Seen}
use Rattle.place_engine.specs.declared.faults.PlaceFault.{PlaceFault}
use Rattle.place_engine.specs.declared.faults.PlaceFault.TheVariants.{NoMemory, StoreFault, Stopped, Gone, Worn}
use Rattle.place_engine.specs.declared.faults.Left.TheVariants.{Nothing, Ticked, Unsaid}

-- Why there may be no room: how often a volume refused some, and for which events a place would hold more than a log can begin with.
pub record RoomCauses (V : Type 0) : Type 1 where
  pub refusals : V → ℕ
  pub outgrows_log : State → What → Type 0

-- the volume refused room in this call, or so many messages count that no file may be free for a block, or the place would hold more than a log can begin with
abbrev pub LacksRoom : (State → What → Type 0) → What → Seen → Seen → Type 0
LacksRoom outgrows what old new =
    Rose old.place.volume.refusals new.place.volume.refusals ⊎ ((is_few new.place.stored ≡ false) ⊎ outgrows new.place.state what)

-- all but where the volume stands, and what there is room for, is as it was
pub record Prepared (outgrows : State → What → Type 0) (what : What) (old new : Seen) : Type 0 where
  pub keeps : KeepsState old new
  pub goes : new.place.stopped ≡ None
  pub base : KeepsBase old new
  pub waiting : new.waiting ≡ old.waiting
  pub cause : new.room what ≡ false → LacksRoom outgrows what old new

-- it is not known whether there is room; the volume may have been called
pub record Unprepared (old new : Seen) : Type 0 where
  pub going : old.place.stopped ≡ None
  pub rests : Rests old new [] []

-- the volume failed, and the place is stopped at the count that its volume has then
pub record FailsPreparing (old new : Seen) : Type 0 where
  pub keeps : KeepsState old new
  pub stops : new.place.stopped ≡ Some new.place.volume.faults
  pub cause : Rose old.place.volume.faults new.place.volume.faults
  pub base : KeepsBase old new
  pub waiting : new.waiting ≡ old.waiting

abbrev pub EndsPreparing : (State → What → Type 0) → Result (Unit {0}) PlaceFault → What → Seen → Seen → Type 0
EndsPreparing outgrows (Ok done) what old new = Prepared outgrows what old new
EndsPreparing outgrows (Err (NoMemory Nothing)) what old new = Unprepared old new
EndsPreparing outgrows (Err (NoMemory Ticked)) what old new = ⊥
EndsPreparing outgrows (Err (NoMemory (Unsaid refused))) what old new = ⊥
EndsPreparing outgrows (Err StoreFault) what old new = FailsPreparing old new
EndsPreparing outgrows (Err (Stopped count)) what old new = IsStopped count old new [] []
EndsPreparing outgrows (Err (Gone kept)) what old new = ⊥
EndsPreparing outgrows (Err (Worn refused)) what old new = ⊥

-- what the call came to, and what a crash may have left since it began: what it could leave before, or a base from before. The volume is called only for what
-- asks for room
pub record Prepares (holds : Image → State → Type 0) (outgrows : State → What → Type 0) (result : Result (Unit {0}) PlaceFault) (what : What) (old new : Seen) : Type 0 where
  pub ends : EndsPreparing outgrows result what old new
  pub quiet : asks_room what ≡ false → LeavesVolume old new
  pub time : Elapses holds old new
  pub images : (t : ℕ) (image : Image) → t ≤ old.place.volume.moment → new.left_since t image → old.left_since t image ⊎ ((d : State) × holds image d × old.is_base d)

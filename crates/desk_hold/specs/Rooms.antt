-- Room is made at a place for what is to be asked there.
use Rattle.std.specs.Prelude.{◌⊎◌, ◌≤◌, ℕ, [], Result, Ok, Err}
use Rattle.js_base.specs.declared.memory.NoMemory.{NoMemory}
use Rattle.js_model.specs.declared.stream.State.{State}
use Rattle.js_model.specs.declared.event.What.{What}
use Rattle.place_engine.specs.Preparing.{FailsPreparing, Prepared, Unprepared}
use Rattle.place_engine.specs.Stepping.{Elapses, Image, IsStopped, KeepsBase, Seen}

-- there is some, or it is known why there is none; or the volume failed, or had failed before, and the place is stopped
abbrev pub IsReady : (State → What → Type 0) → What → Seen → Seen → Type 0
IsReady outgrows what old new = Prepared outgrows what old new ⊎ (FailsPreparing old new ⊎ ((count : ℕ) × IsStopped count old new [] []))

abbrev pub EndsRoom : (State → What → Type 0) → Result (Unit {0}) NoMemory → What → Seen → Seen → Type 0
EndsRoom outgrows (Ok done) what old new = IsReady outgrows what old new
EndsRoom outgrows (Err short) what old new = Unprepared old new

-- nothing is committed, and each image of a crash within it was left before or holds a base from before
pub record CommitsNothing (holds : Image → State → Type 0) (old new : Seen) : Type 0 where
  pub time : Elapses holds old new
  pub images : (t : ℕ) (image : Image) → t ≤ old.place.volume.moment → new.left_since t image → old.left_since t image ⊎ ((d : State) × holds image d × old.is_base d)
  pub base : KeepsBase old new

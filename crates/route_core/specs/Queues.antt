-- The frames that wait for a session, and how long they are.
use Rattle.std.specs.Prelude.{◌≡◌, ℕ, ◌<◌, ◌≤◌, ◌^◌, List, [], ◌∷◌, length, nat_lt, Option, Some, None}
use Rattle.js_base.specs.declared.frame.Frame.{Frame}
use Rattle.js_base.specs.declared.frame.Frame.TheVariants.{Ping}
use Rattle.js_base.specs.Framing.{frame}
use Rattle.js_model.specs.Router.{Waiting, Queue, Marked, most_waiting, bytes_together, collected}
use Rattle.js_model.specs.declared.desk.Collected.{Collected}
use Rattle.js_model.specs.declared.desk.Collected.TheVariants.{Frames, Slow}

-- the length of a frame is known, and in the range of a number of 64 bits, also with what may wait before it
pub record IsMeasured (f : Frame) (len : ℕ) : Type 0 where
  pub length_is : len ≡ length (frame f)
  pub short : len < 2 ^ 63

abbrev pub first_frame : List Frame → Frame
first_frame [] = Ping
first_frame (f ∷ _) = f

-- one frame, and its length
pub record IsParcel (frames : List Frame) (len : ℕ) : Type 0 where
  pub one : frames ≡ first_frame frames ∷ []
  pub measured : IsMeasured (first_frame frames) len

-- the frames, or a mark if there is one
abbrev pub waiting_of : Option ℕ → List Frame → Waiting
waiting_of None frames = Queue frames
waiting_of (Some length) frames = Marked length

-- the length of the frames is known, and within the limit
pub record IsWithin (frames : List Frame) (len : ℕ) : Type 0 where
  pub length_is : len ≡ bytes_together frames
  pub within : len ≤ most_waiting

-- what a collect gives
abbrev pub gathered : ℕ → Waiting → Collected
gathered max (Queue frames) = Frames (collected max frames) (nat_lt (length (collected max frames)) (length frames))
gathered max (Marked length) = Slow length

-- What a place is opened to, in memory and on a volume alike.
use Rattle.std.specs.Prelude.{◌≡◌, ◌⊎◌, ◌≤◌, ℕ, length, None}
use Rattle.js_base.specs.Causes.{Rose}
use Rattle.js_model.specs.declared.stream.State.{State}
use Rattle.js_model.specs.declared.event.What.TheVariants.{Tick}
use Rattle.js_model.specs.Lasting.{lasting}
use Rattle.js_model.specs.Runs.{messages_of}
use Rattle.model_laws.specs.Bounds.{IsBounded, IsWritable}
use Rattle.model_laws.specs.Sound.{IsSound}
use Rattle.place_engine.specs.Preparing.{RoomCauses}
use Rattle.place_engine.specs.Stepping.{Image, IsFlushed, Seen}

-- Of a kind of place: which state an image of a volume holds, the image that reads of a volume give, what a crash of it at some moment from one on may have
-- left, and its moment.
module _ {V : Type 0} (holds : Image → State → Type 0) (reads : V → Image → Type 0) (left : V → ℕ → Image → Type 0) (clock : V → ℕ) where
  -- what reads give holds this, and so does each image that a crash now may leave
  pub record AllHold (vol : V) (b : State) : Type 0 where
    pub read : (image : Image) → reads vol image → holds image b
    pub now : (image : Image) → left vol (clock vol) image → holds image b

  -- If all of the volume held this, then an image of a crash at some moment was left by then already, or holds it too.
  abbrev pub KeepsHeld : V → State → (ℕ → Image → Type 0) → Type 0
  KeepsHeld vol b left_since =
      AllHold vol b → (t : ℕ) (image : Image) → t ≤ clock vol → left_since t image → left vol t image ⊎ holds image b

  -- A place was opened on a volume: what the volume opens to stands there, all of it outlives a crash and is on the volume, and it is such as a run begins
  -- with: sound, within the bounds of a volume, with messages that can be written, and no more of them count against the store than stand there.
  pub record IsOpened (opens : V → State → Type 0) (vol : V) (s : Seen) : Type 0 where
    pub going : s.place.stopped ≡ None
    pub state : opens vol s.place.state
    pub all_lasts : lasting s.place.state ≡ s.place.state
    pub flushed : IsFlushed s
    pub sound : IsSound s.place.state
    pub bounded : IsBounded s.place.state
    pub writable : IsWritable s.place.state
    pub counted : s.place.stored ≤ length (messages_of s.place.state)
    pub earlier : KeepsHeld vol s.place.state s.left_since

  -- no place was opened on it: what it may open to, a crash leaves as before
  abbrev pub IsUnopened : (opens : V → State → Type 0) → V → V → Type 0
  IsUnopened opens vol after = (state : State) → opens vol state → KeepsHeld vol state (left after)

-- why a place was not opened for want of room: the volume refused some, or what it opens to is more already than a log can begin with
abbrev pub HasNoRoom : {V : Type 0} → RoomCauses V → (V → State → Type 0) → V → V → Type 0
HasNoRoom causes opens vol after =
    Rose (causes.refusals vol) (causes.refusals after) ⊎ ((state : State) × opens vol state × causes.outgrows_log state Tick)

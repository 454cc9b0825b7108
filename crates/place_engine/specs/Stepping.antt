-- What a place promises of each step, in memory and on a volume alike.
use Rattle.std.specs.Prelude.{◌≡◌, ◌≢◌, ◌⊎◌, ◌≤◌, ◌+◌, ◌-◌, ◌^◌, ℕ, Bool, true, false, List, [], ◌++◌, length, Option, None, Some, Result, Ok, Err}
use Rattle.js_base.specs.Bytes.{Bytes}
use Rattle.js_base.specs.Causes.{Rose}
use Rattle.js_base.specs.declared.out.Out.{Out}
use Rattle.js_model.specs.declared.stream.State.{State}
use Rattle.js_model.specs.declared.event.Event.{Event}
use Rattle.js_model.specs.declared.event.What.{What}
use Rattle.js_model.specs.declared.event.What.TheVariants.{Tick}
use Rattle.js_model.specs.declared.reply.Reply.{Reply}
use Rattle.js_model.specs.Events.{answered, asks_room, is_refused, kept_incarnation}
use Rattle.js_model.specs.Firm.{IsFirmStep}
use Rattle.js_model.specs.Runs.{new_messages}
use Rattle.js_model.specs.Lasting.{lasting}
use Rattle.js_model.specs.PlaceStates.{PlaceIn}
use Rattle.effects.specs.Effects.{event_effects}
use Rattle.effects.specs.Laws.{Leads}
use Rattle.effects.specs.declared.effect.Effect.{Effect}
use Rattle.place_engine.specs.Following.{followed}
use Rattle.place_engine.specs.declared.faults.PlaceFault.{PlaceFault}
use Rattle.place_engine.specs.declared.faults.PlaceFault.TheVariants.{NoMemory, StoreFault, Stopped, Gone, Worn}
use Rattle.place_engine.specs.declared.faults.Left.TheVariants.{Nothing, Ticked, Unsaid}

-- the bytes of each file of a volume
abbrev pub Image : Type 0
Image = ℕ → Bytes

-- A place as it is seen: what stands there; which states its volume may hold, its bases; the records of what was made since, which wait for a commit;
-- whether there is room for what is asked, which there always is in memory; and what a crash at some moment of the volume from one on may have left, which is
-- nothing in memory.
-- A base is told by a predicate and is no value: once records wait, the bytes of the volume alone have it, and of a volume of which nothing is known there
-- is none. The commit that stopped a place may have been made or not, so that a stopped place can have two.
pub record Seen : Type 1 where
  pub place : PlaceIn
  pub is_base : State → Type 0
  pub waiting : List Effect
  pub room : What → Bool
  pub left_since : ℕ → Image → Type 0

-- ---- crashes

-- what waits leads from each base to what outlives a crash of what stands; on the volume of a stopped place the latter may be already
abbrev pub Waits : Option ℕ → (State → Type 0) → List Effect → State → Type 0
Waits None is_base waiting state = (b : State) → is_base b → Leads b waiting (lasting state)
Waits (Some count) is_base waiting state = (b : State) → is_base b → Leads b waiting (lasting state) ⊎ (b ≡ lasting state)

-- between two calls: each image of a crash now holds a base, so that there is one wherever a crash may leave anything, and one alone unless the place is
-- stopped. What asks for no room has it
pub record IsKept (holds : Image → State → Type 0) (s : Seen) : Type 0 where
  pub waits : Waits s.place.stopped s.is_base s.waiting s.place.state
  pub one : s.place.stopped ≡ None → (a b : State) → s.is_base a → s.is_base b → a ≡ b
  pub now : (image : Image) → s.left_since s.place.volume.moment image → (b : State) × holds image b × s.is_base b
  pub free : (what : What) → asks_room what ≡ false → s.room what ≡ true
  pub earlier : (t u : ℕ) (image : Image) → t ≤ u → s.left_since u image → s.left_since t image

-- within a call: a crash leaves what it could leave before, or a base from before, or what outlives a crash of the state after it
pub record Elapses (holds : Image → State → Type 0) (old new : Seen) : Type 0 where
  pub faults : old.place.volume.faults ≤ new.place.volume.faults
  pub refusals : old.place.volume.refusals ≤ new.place.volume.refusals
  pub moments : old.place.volume.moment ≤ new.place.volume.moment
  pub generations : old.place.volume.generation ≤ new.place.volume.generation
  pub goes_on : (t : ℕ) (image : Image) → t ≤ old.place.volume.moment → new.left_since t image
      → old.left_since t image ⊎ ((d : State) × holds image d × (old.is_base d ⊎ (d ≡ lasting new.place.state)))

-- ---- what a call commits

-- each base is one from before
abbrev pub KeepsBase : Seen → Seen → Type 0
KeepsBase old new = (b : State) → new.is_base b → old.is_base b

-- all that was made is on the volume, and nothing waits
pub record IsFlushed (new : Seen) : Type 0 where
  pub base : (b : State) → new.is_base b → b ≡ lasting new.place.state
  pub waiting : new.waiting ≡ []

-- nothing is committed, and the records of what was made wait behind those from before
pub record IsPutOff (made : List Effect) (old new : Seen) : Type 0 where
  pub base : KeepsBase old new
  pub waiting : new.waiting ≡ followed old.waiting made

-- one of the two
abbrev pub MayPutOff : List Effect → Seen → Seen → Type 0
MayPutOff made old new = IsFlushed new ⊎ IsPutOff made old new

-- the records of an event at a place
abbrev pub effects_of : Event → ℕ → Seen → List Effect
effects_of event now old = event_effects old.place.state event.what now (old.room event.what)

-- the records that are to be committed with an event: those that wait, and its own
abbrev pub batch_of : Event → ℕ → Seen → List Effect
batch_of event now old = followed old.waiting (effects_of event now old)

-- ---- what became of the event

-- all but where the volume stands is as it was
pub record Rests (old new : Seen) (before after : List Out) : Type 0 where
  pub state : new.place.state ≡ old.place.state
  pub stored : new.place.stored ≡ old.place.stored
  pub stopped : new.place.stopped ≡ old.place.stopped
  pub base : KeepsBase old new
  pub waiting : new.waiting ≡ old.waiting
  pub outs : after ≡ before

-- the machine makes the event, whatever is told of it
pub record Does (event : Event) (now : ℕ) (old new : Seen) : Type 0 where
  pub going : old.place.stopped ≡ None
  pub kept : event.incarnation ≡ kept_incarnation old.place.state
  pub state : new.place.state ≡ (answered old.place.state event now (old.room event.what)).state

-- a confirmed step is on the volume with all before it; another one may be
pub record Commits (event : Event) (now : ℕ) (reply : Reply) (old new : Seen) : Type 0 where
  pub firm : IsFirmStep old.place.state event.what reply new.place.state → IsFlushed new
  pub may : MayPutOff (effects_of event now old) old new

-- it is made, and told with its reply and its outputs
pub record Tells (reply : Reply) (event : Event) (now : ℕ) (old new : Seen) (before after : List Out) : Type 0 where
  pub does : Does event now old new
  pub goes : new.place.stopped ≡ None
  pub reply_is : reply ≡ (answered old.place.state event now (old.room event.what)).reply
  pub outs : after ≡ before ++ (answered old.place.state event now (old.room event.what)).outs
  pub commits : Commits event now reply old new

abbrev pub tick_of : Event → Event
tick_of event = record event { what = Tick }

-- time passed in its place
pub record Passes (event : Event) (now : ℕ) (old new : Seen) (before after : List Out) : Type 0 where
  pub does : Does (tick_of event) now old new
  pub goes : new.place.stopped ≡ None
  pub outs : after ≡ before ++ (answered old.place.state (tick_of event) now (old.room Tick)).outs
  pub may : MayPutOff (effects_of (tick_of event) now old) old new

-- no call on it changes its volume
pub record LeavesVolume (old new : Seen) : Type 0 where
  pub volume : new.place.volume ≡ old.place.volume
  pub images : (t : ℕ) (image : Image) → new.left_since t image → old.left_since t image

-- it is made and not committed, and its reply is told to nobody
pub record Hides (event : Event) (now : ℕ) (old new : Seen) (before after : List Out) : Type 0 where
  pub does : Does event now old new
  pub goes : new.place.stopped ≡ None
  pub outs : after ≡ before ++ (answered old.place.state event now (old.room event.what)).outs
  pub put_off : IsPutOff (effects_of event now old) old new
  pub volume : LeavesVolume old new

-- it is made, and of its reply only whether it is a refusal is told
pub record Withholds (refused : Bool) (event : Event) (now : ℕ) (old new : Seen) (before after : List Out) : Type 0 where
  pub hides : Hides event now old new before after
  pub refused_is : refused ≡ is_refused (answered old.place.state event now (old.room event.what)).reply

-- on the volume is what was there, or all that was made
abbrev pub MayKeepBase : Seen → Seen → Type 0
MayKeepBase old new = (b : State) → new.is_base b → old.is_base b ⊎ (b ≡ lasting new.place.state)

-- it is made, the volume failed, and the place is stopped at the count that its volume has then
pub record Breaks (event : Event) (now : ℕ) (old new : Seen) (before after : List Out) : Type 0 where
  pub does : Does event now old new
  pub stops : new.place.stopped ≡ Some new.place.volume.faults
  pub cause : Rose old.place.volume.faults new.place.volume.faults
  pub base : MayKeepBase old new
  pub outs : after ≡ before

-- nothing was made. The volume of a place that goes on may have been called
pub record IsUndone (old new : Seen) (before after : List Out) : Type 0 where
  pub rests : Rests old new before after
  pub volume : (count : ℕ) → old.place.stopped ≡ Some count → LeavesVolume old new

-- the place was stopped before at this count
pub record IsStopped (count : ℕ) (old new : Seen) (before after : List Out) : Type 0 where
  pub stopped : old.place.stopped ≡ Some count
  pub rests : Rests old new before after
  pub volume : LeavesVolume old new

-- the place is not stopped, and keeps another incarnation
pub record IsGone (kept : ℕ) (event : Event) (old new : Seen) (before after : List Out) : Type 0 where
  pub going : old.place.stopped ≡ None
  pub kept_is : kept ≡ kept_incarnation old.place.state
  pub other : event.incarnation ≢ kept
  pub rests : Rests old new before after
  pub volume : LeavesVolume old new

-- it is made and its reply withheld, since the numbers of the store's generations are used up
pub record IsWornOut (refused : Bool) (event : Event) (now : ℕ) (old new : Seen) (before after : List Out) : Type 0 where
  pub withholds : Withholds refused event now old new before after
  pub last : new.place.volume.generation ≡ 2 ^ 62 - 1

abbrev pub Ends : Result Reply PlaceFault → Event → ℕ → Seen → Seen → List Out → List Out → Type 0
Ends (Ok reply) event now old new before after = Tells reply event now old new before after
Ends (Err (NoMemory Nothing)) event now old new before after = IsUndone old new before after
Ends (Err (NoMemory Ticked)) event now old new before after = Passes event now old new before after
Ends (Err (NoMemory (Unsaid refused))) event now old new before after = Withholds refused event now old new before after
Ends (Err StoreFault) event now old new before after = Breaks event now old new before after
Ends (Err (Stopped count)) event now old new before after = IsStopped count old new before after
Ends (Err (Gone kept)) event now old new before after = IsGone kept event old new before after
Ends (Err (Worn refused)) event now old new before after = IsWornOut refused event now old new before after

-- what the call came to, and what a crash may have left since it began
pub record Steps (holds : Image → State → Type 0) (result : Result Reply PlaceFault) (event : Event) (now : ℕ) (old new : Seen) (before after : List Out) : Type 0 where
  pub ends : Ends result event now old new before after
  pub stored : new.place.stored ≤ old.place.stored + length (new_messages old.place.state new.place.state)
  pub time : Elapses holds old new

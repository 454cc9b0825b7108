-- An event on one place, and what became of it.
use Rattle.std.specs.Prelude.{◌≡◌, ◌≢◌, ◌⊎◌, ◌<◌, ◌≤◌, ◌+◌, ◌-◌, ◌^◌, ◌++◌, ℕ, Bool, true, false, List, length, None, Some, Result, Ok, Err}
use Rattle.js_base.specs.Causes.{Rose}
use Rattle.js_base.specs.declared.out.Out.{Out}
use Rattle.js_model.specs.declared.stream.State.{State}
use Rattle.js_model.specs.declared.stream.State.TheVariants.{Live}
use Rattle.js_model.specs.declared.stream.Stream.{Stream}
use Rattle.js_model.specs.declared.event.Event.{Event}
use Rattle.js_model.specs.declared.reply.Reply.{Reply}
use Rattle.js_model.specs.declared.event.What.{What}
use Rattle.js_model.specs.declared.reply.Reply.TheVariants.{Silent, Refused}
use Rattle.js_model.specs.Events.{is_refused, kept_incarnation}
use Rattle.js_model.specs.PlaceStates.{PlaceIn}
use Rattle.js_model.specs.Refusals.{no_room}
use Rattle.js_model.specs.Runs.{IsStep, is_few, new_messages}
use Rattle.js_api.specs.Outputs.{answer_of, stream_name, said}
use Rattle.js_api.specs.Worlds.{IsLater, Stops}
use Rattle.place_engine.specs.Stepping.{tick_of}
use Rattle.place_engine.specs.declared.faults.PlaceFault.{PlaceFault}
use Rattle.place_engine.specs.declared.faults.PlaceFault.TheVariants.{NoMemory, StoreFault, Stopped, Gone, Worn}
use Rattle.place_engine.specs.declared.faults.Left.TheVariants.{Nothing, Ticked, Unsaid}
use Rattle.desk_hold.specs.declared.stepping.MadeStep.{MadeStep}

-- the incarnation of a stream that is there is below 2 ^ 62
abbrev pub IsNumbered : State → Type 0
IsNumbered state = (stream : Stream) → state ≡ Live stream → kept_incarnation state < 2 ^ 62

-- an event was made at a place that was not stopped, which is a step of the place's run
pub record IsMade (event : Event) (now : ℕ) (reply : Reply) (outs : List Out) (old new : PlaceIn) : Type 0 where
  pub going : old.stopped ≡ None
  pub step : IsStep old.stored old.state event now reply outs new.state
  pub stored : new.stored ≤ old.stored + length (new_messages old.state new.state)
  pub later : IsLater old.volume new.volume

-- It is refused for want of room only if the volume refused some, if so many messages count that no file may be free for one more, or if more would stand
-- there than a log can begin with, as is told.
pub record IsShort (outgrows : State → What → Type 0) (what : What) (reply : Reply) (outgrown : Bool) (old new : PlaceIn) : Type 0 where
  pub cause : reply ≡ Refused no_room → Rose old.volume.refusals new.volume.refusals ⊎ ((is_few old.stored ≡ false) ⊎ (outgrown ≡ true))
  pub log : outgrown ≡ true → outgrows old.state what

-- what it sends was added, and its answer unless that is unsaid
pub record AddsStep (outgrows : State → What → Type 0) (step : MadeStep) (event : Event) (now : ℕ) (old new : PlaceIn) (before after : List Out) : Type 0 where
  pub outs : List Out
  pub outgrown : Bool
  pub made : IsMade event now step.reply outs old new
  pub short : IsShort outgrows event.what step.reply outgrown old new
  pub goes : new.stopped ≡ None
  pub added : after ≡ before ++ (outs ++ said step.unsaid (answer_of (stream_name old.state) event.what step.reply))

-- in its place time passed, and what that sends was added
pub record AddsTick (event : Event) (now : ℕ) (old new : PlaceIn) (before after : List Out) : Type 0 where
  pub outs : List Out
  pub made : IsMade (tick_of event) now Silent outs old new
  pub goes : new.stopped ≡ None
  pub added : after ≡ before ++ outs

-- what it sends was added, and of its reply only whether it is a refusal is told
pub record WithholdsStep (outgrows : State → What → Type 0) (refused : Bool) (event : Event) (now : ℕ) (old new : PlaceIn) (before after : List Out) : Type 0 where
  pub reply : Reply
  pub outs : List Out
  pub outgrown : Bool
  pub made : IsMade event now reply outs old new
  pub short : IsShort outgrows event.what reply outgrown old new
  pub goes : new.stopped ≡ None
  pub added : after ≡ before ++ outs
  pub refused_is : refused ≡ is_refused reply

-- its reply is withheld since the numbers of the store's generations are used up
pub record WearsStep (outgrows : State → What → Type 0) (refused : Bool) (event : Event) (now : ℕ) (old new : PlaceIn) (before after : List Out) : Type 0 where
  pub withholds : WithholdsStep outgrows refused event now old new before after
  pub last : new.volume.generation ≡ 2 ^ 62 - 1

-- the volume failed in it
pub record BreaksStep (event : Event) (now : ℕ) (old new : PlaceIn) : Type 0 where
  pub reply : Reply
  pub outs : List Out
  pub made : IsMade event now reply outs old new
  pub stops : Stops true old.volume new.volume new.stopped

-- nothing was made; the volume may have been called unless the place is stopped
pub record IsUndoneStep (old new : PlaceIn) : Type 0 where
  pub state : new.state ≡ old.state
  pub stored : new.stored ≡ old.stored
  pub stopped : new.stopped ≡ old.stopped
  pub volume : (count : ℕ) → old.stopped ≡ Some count → new.volume ≡ old.volume
  pub later : IsLater old.volume new.volume

-- the volume failed as room was made, which stops the place, and nothing was made
pub record StopsUnmade (old new : PlaceIn) : Type 0 where
  pub going : old.stopped ≡ None
  pub state : new.state ≡ old.state
  pub stored : new.stored ≡ old.stored
  pub stops : Stops true old.volume new.volume new.stopped
  pub later : IsLater old.volume new.volume

-- the place was stopped before at this count, and all is as it was
pub record FindsStopped (count : ℕ) (old new : PlaceIn) : Type 0 where
  pub stopped : old.stopped ≡ Some count
  pub same : new ≡ old

-- the place is not stopped and keeps another incarnation, and nothing was made
pub record FindsOther (event : Event) (old new : PlaceIn) : Type 0 where
  pub going : old.stopped ≡ None
  pub other : kept_incarnation old.state ≢ event.incarnation
  pub undone : IsUndoneStep old new

module _ (outgrows : State → What → Type 0) where
  -- what became of an event for which room was made first; `outgrows` is when more would stand at a place than a log can begin with
  abbrev pub EndsStep : Result MadeStep PlaceFault → Event → ℕ → PlaceIn → PlaceIn → List Out → List Out → Type 0
  EndsStep (Ok step) event now old new before after = AddsStep outgrows step event now old new before after
  EndsStep (Err (NoMemory Nothing)) event now old new before after = IsUndoneStep old new ⊎ StopsUnmade old new
  EndsStep (Err (NoMemory Ticked)) event now old new before after = AddsTick event now old new before after
  EndsStep (Err (NoMemory (Unsaid refused))) event now old new before after = WithholdsStep outgrows refused event now old new before after
  EndsStep (Err StoreFault) event now old new before after = BreaksStep event now old new
  EndsStep (Err (Stopped count)) event now old new before after = FindsStopped count old new ⊎ StopsUnmade old new
  EndsStep (Err (Gone kept)) event now old new before after = FindsOther event old new
  EndsStep (Err (Worn refused)) event now old new before after = WearsStep outgrows refused event now old new before after

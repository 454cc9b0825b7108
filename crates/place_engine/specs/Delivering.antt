-- What a place promises of each delivery, in memory and on a volume alike.
use Rattle.std.specs.Prelude.{◌≡◌, ◌≤◌, ◌-◌, ◌^◌, ℕ, false, List, ◌++◌, Option, None, Some, Result, Ok, Err}
use Rattle.js_base.specs.Bytes.{Bytes}
use Rattle.js_base.specs.Causes.{Rose}
use Rattle.js_base.specs.declared.out.Out.{Out}
use Rattle.js_model.specs.declared.stream.State.{State}
use Rattle.js_model.specs.declared.event.Event.{Event}
use Rattle.js_model.specs.declared.event.What.TheVariants.{Tick}
use Rattle.js_model.specs.declared.entry.Delivery.{Delivery}
use Rattle.js_model.specs.Deliver.{IsDelivered}
use Rattle.js_model.specs.Events.{kept_incarnation}
use Rattle.js_model.specs.Ready.{some_ready}
use Rattle.effects.specs.Effects.{delivery_effects}
use Rattle.effects.specs.declared.effect.Effect.{Effect}
use Rattle.place_engine.specs.Following.{followed}
use Rattle.place_engine.specs.Stepping.{Image, Seen, Elapses, IsPutOff, IsStopped, IsUndone, LeavesVolume, MayKeepBase, MayPutOff, Passes, Rests}
use Rattle.place_engine.specs.declared.faults.PlaceFault.{PlaceFault}
use Rattle.place_engine.specs.declared.faults.PlaceFault.TheVariants.{NoMemory, StoreFault, Stopped, Gone, Worn}
use Rattle.place_engine.specs.declared.faults.Left.TheVariants.{Nothing, Ticked, Unsaid}

-- the machine makes the delivery, by which these outputs are sent
pub record Makes (now : ℕ) (listening : List Bytes) (delivery : Delivery) (outs : List Out) (old new : Seen) : Type 0 where
  pub going : old.place.stopped ≡ None
  pub delivered : IsDelivered old.place.state now listening delivery outs new.place.state

-- the records that are to be committed with a delivery: those that wait, and its own
abbrev pub batch_with : ℕ → Delivery → Seen → Seen → List Effect
batch_with now delivery old new = followed old.waiting (delivery_effects old.place.state now delivery new.place.state)

-- it is made, and its outputs are told. It may be committed
pub record TellsDelivery (delivery : Delivery) (now : ℕ) (listening : List Bytes) (old new : Seen) (before after : List Out) : Type 0 where
  pub sent : List Out
  pub makes : Makes now listening delivery sent old new
  pub goes : new.place.stopped ≡ None
  pub outs : after ≡ before ++ sent
  pub may : MayPutOff (delivery_effects old.place.state now delivery new.place.state) old new

-- no consumer is ready, and all is as it was
pub record TellsNone (now : ℕ) (listening : List Bytes) (old new : Seen) (before after : List Out) : Type 0 where
  pub going : old.place.stopped ≡ None
  pub none : some_ready old.place.state now listening ≡ false
  pub rests : Rests old new before after
  pub volume : new.place.volume ≡ old.place.volume

-- a tick for what the place keeps
abbrev pub tick_at : State → Event
tick_at state = record { incarnation = kept_incarnation state; what = Tick }

-- some delivery is made, which is not committed, and its outputs are told
pub record HidesDelivery (now : ℕ) (listening : List Bytes) (old new : Seen) (before after : List Out) : Type 0 where
  pub delivery : Delivery
  pub sent : List Out
  pub makes : Makes now listening delivery sent old new
  pub goes : new.place.stopped ≡ None
  pub outs : after ≡ before ++ sent
  pub put_off : IsPutOff (delivery_effects old.place.state now delivery new.place.state) old new
  pub volume : LeavesVolume old new

-- it is made and not committed, since the numbers of the store's generations are used up
pub record WearsDelivery (now : ℕ) (listening : List Bytes) (old new : Seen) (before after : List Out) : Type 0 where
  pub hides : HidesDelivery now listening old new before after
  pub last : new.place.volume.generation ≡ 2 ^ 62 - 1

-- some delivery is made, the volume failed, and the place is stopped at the count that its volume has then. Its outputs are told to nobody
pub record BreaksDelivery (now : ℕ) (listening : List Bytes) (old new : Seen) (before after : List Out) : Type 0 where
  pub delivery : Delivery
  pub sent : List Out
  pub makes : Makes now listening delivery sent old new
  pub stops : new.place.stopped ≡ Some new.place.volume.faults
  pub cause : Rose old.place.volume.faults new.place.volume.faults
  pub base : MayKeepBase old new
  pub outs : after ≡ before

abbrev pub EndsDelivery : Result (Option Delivery) PlaceFault → ℕ → List Bytes → Seen → Seen → List Out → List Out → Type 0
EndsDelivery (Ok (Some delivery)) now listening old new before after = TellsDelivery delivery now listening old new before after
EndsDelivery (Ok None) now listening old new before after = TellsNone now listening old new before after
EndsDelivery (Err (NoMemory Nothing)) now listening old new before after = IsUndone old new before after
EndsDelivery (Err (NoMemory Ticked)) now listening old new before after = Passes (tick_at old.place.state) now old new before after
EndsDelivery (Err (NoMemory (Unsaid refused))) now listening old new before after = HidesDelivery now listening old new before after
EndsDelivery (Err StoreFault) now listening old new before after = BreaksDelivery now listening old new before after
EndsDelivery (Err (Stopped count)) now listening old new before after = IsStopped count old new before after
EndsDelivery (Err (Gone kept)) now listening old new before after = ⊥
EndsDelivery (Err (Worn refused)) now listening old new before after = WearsDelivery now listening old new before after

-- what the call came to, and what a crash may have left since it began. A delivery stores no message
pub record Delivers (holds : Image → State → Type 0) (result : Result (Option Delivery) PlaceFault) (now : ℕ) (listening : List Bytes) (old new : Seen) (before after : List Out)
    : Type 0 where
  pub ends : EndsDelivery result now listening old new before after
  pub stored : new.place.stored ≤ old.place.stored
  pub time : Elapses holds old new

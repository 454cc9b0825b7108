-- Calls of a place, one after the other, and what they make of the run of its stream, by rules of this server's own.
use Rattle.std.specs.Prelude.{◌≡◌, ◌<◌, ◌≤◌, ◌^◌, ℕ, Bool, true, false, IsTrue, List, [], ◌∷◌, ◌++◌, Option, None, Some, Result, Ok, Err}
use Rattle.js_base.specs.Bytes.{Bytes}
use Rattle.js_base.specs.declared.out.Out.{Out}
use Rattle.js_model.specs.declared.stream.State.{State}
use Rattle.js_model.specs.declared.event.Event.{Event}
use Rattle.js_model.specs.declared.event.What.{What}
use Rattle.js_model.specs.declared.reply.Reply.{Reply}
use Rattle.js_model.specs.declared.entry.Delivery.{Delivery}
use Rattle.js_model.specs.declared.entry.PlaceEntry.{PlaceEntry}
use Rattle.js_model.specs.declared.entry.PlaceEntry.TheVariants.{Step, Deliver, Broken}
use Rattle.js_model.specs.declared.entry.Call.TheVariants.{Step as StepOf, Deliver as DeliverOf}
use Rattle.js_model.specs.Events.{answered, kept_incarnation}
use Rattle.js_model.specs.Proper.{is_proper}
use Rattle.place_engine.specs.Stepping.{Image, Seen, Steps, tick_of}
use Rattle.place_engine.specs.Delivering.{Delivers, EndsDelivery, tick_at}
use Rattle.place_engine.specs.Flushing.{Flushes}
use Rattle.place_engine.specs.Preparing.{Prepares}
use Rattle.place_engine.specs.declared.faults.PlaceFault.{PlaceFault}
use Rattle.place_engine.specs.declared.faults.PlaceFault.TheVariants.{NoMemory, StoreFault, Stopped, Gone, Worn}
use Rattle.place_engine.specs.declared.faults.Left.TheVariants.{Nothing, Ticked, Unsaid}

-- ---- what one call makes

-- the event as the machine makes it at the place; an unsaid one is not answered
abbrev pub stepped : ℕ → Event → ℕ → Bool → Seen → PlaceEntry
stepped seat event now unsaid old =
    Step seat event now (answered old.place.state event now (old.room event.what)).reply (answered old.place.state event now (old.room event.what)).outs unsaid

-- a step makes its event, or lets time pass, or changes nothing. If the volume failed, the entry is broken
abbrev pub made_by_step : Result Reply PlaceFault → ℕ → Event → ℕ → Seen → List PlaceEntry
made_by_step (Ok reply) seat event now old = stepped seat event now false old ∷ []
made_by_step (Err (NoMemory Nothing)) seat event now old = []
made_by_step (Err (NoMemory Ticked)) seat event now old = stepped seat (tick_of event) now false old ∷ []
made_by_step (Err (NoMemory (Unsaid refused))) seat event now old = stepped seat event now true old ∷ []
made_by_step (Err StoreFault) seat event now old = Broken seat now (StepOf event) ∷ []
made_by_step (Err (Stopped count)) seat event now old = []
made_by_step (Err (Gone kept)) seat event now old = []
made_by_step (Err (Worn refused)) seat event now old = stepped seat event now true old ∷ []

-- so does a delivery
abbrev pub made_by_delivery : (seat now : ℕ) (listening : List Bytes) (old new : Seen) (before after : List Out) (result : Result (Option Delivery) PlaceFault)
    → EndsDelivery result now listening old new before after → List PlaceEntry
made_by_delivery seat now listening old new before after (Ok (Some delivery)) ends = Deliver seat now listening delivery ends.sent ∷ []
made_by_delivery seat now listening old new before after (Ok None) ends = []
made_by_delivery seat now listening old new before after (Err (NoMemory Nothing)) ends = []
made_by_delivery seat now listening old new before after (Err (NoMemory Ticked)) ends = stepped seat (tick_at old.place.state) now false old ∷ []
made_by_delivery seat now listening old new before after (Err (NoMemory (Unsaid refused))) ends = Deliver seat now listening ends.delivery ends.sent ∷ []
made_by_delivery seat now listening old new before after (Err StoreFault) ends = Broken seat now (DeliverOf listening ends.delivery) ∷ []
made_by_delivery seat now listening old new before after (Err (Stopped count)) ends = []
made_by_delivery seat now listening old new before after (Err (Gone kept)) ends = []
made_by_delivery seat now listening old new before after (Err (Worn refused)) ends = Deliver seat now listening ends.hides.delivery ends.hides.sent ∷ []

-- ---- calls one after the other

-- a call of `step` by the seat whose turn it was
pub record StepCall (holds : Image → State → Type 0) (old new : Seen) (made : List PlaceEntry) : Type 0 where
  pub seat : ℕ
  pub event : Event
  pub now : ℕ
  pub result : Result Reply PlaceFault
  pub before : List Out
  pub after : List Out
  pub proper : IsTrue (is_proper event)
  pub moment : now < 2 ^ 62
  pub steps : Steps holds result event now old new before after
  pub made_is : made ≡ made_by_step result seat event now old

-- a call of `deliver_one`; the incarnation of a place is at most 2^62, as `incarnation` tells
pub record DeliverCall (holds : Image → State → Type 0) (old new : Seen) (made : List PlaceEntry) : Type 0 where
  pub seat : ℕ
  pub now : ℕ
  pub listening : List Bytes
  pub result : Result (Option Delivery) PlaceFault
  pub before : List Out
  pub after : List Out
  pub bound : kept_incarnation old.place.state ≤ 2 ^ 62
  pub moment : now < 2 ^ 62
  pub delivers : Delivers holds result now listening old new before after
  pub made_is : made ≡ made_by_delivery seat now listening old new before after result delivers.ends

-- a call of `flush`, which makes nothing
pub record FlushCall (holds : Image → State → Type 0) (old new : Seen) : Type 0 where
  pub result : Result (Unit {0}) PlaceFault
  pub flushes : Flushes holds result old new

-- a call of `prepare`, which makes nothing
pub record PrepareCall (holds : Image → State → Type 0) (outgrows : State → What → Type 0) (old new : Seen) : Type 0 where
  pub what : What
  pub result : Result (Unit {0}) PlaceFault
  pub prepares : Prepares holds outgrows result what old new

-- the calls of a place from one look at it to another, and all that they made
pub data Calls {P : Type 0} (seen : P → Seen) (holds : Image → State → Type 0) (outgrows : State → What → Type 0) : P → List PlaceEntry → P → Type 0 where
  NoCall : (place : P) → Calls seen holds outgrows place [] place
  APreparing : (old mid new : P) (more : List PlaceEntry) → PrepareCall holds outgrows (seen old) (seen mid) → Calls seen holds outgrows mid more new → Calls seen holds outgrows old more new
  AStep : (old mid new : P) (made more : List PlaceEntry) → StepCall holds (seen old) (seen mid) made → Calls seen holds outgrows mid more new → Calls seen holds outgrows old (made ++ more) new
  ADelivery : (old mid new : P) (made more : List PlaceEntry) → DeliverCall holds (seen old) (seen mid) made → Calls seen holds outgrows mid more new → Calls seen holds outgrows old (made ++ more) new
  AFlush : (old mid new : P) (more : List PlaceEntry) → FlushCall holds (seen old) (seen mid) → Calls seen holds outgrows mid more new → Calls seen holds outgrows old more new

-- What holds of the calls of a place, in memory or on a volume: the laws of the machine hold of the run that they make.
use Rattle.std.specs.Prelude.{◌↔◌, ℕ, IsTrue, List}
use Rattle.js_base.specs.Bytes.{Bytes}
use Rattle.js_base.specs.declared.out.Out.{Out}
use Rattle.js_model.specs.declared.stream.State.{State}
use Rattle.js_model.specs.declared.event.What.{What}
use Rattle.js_model.specs.declared.entry.Delivery.{Delivery}
use Rattle.js_model.specs.declared.entry.PlaceEntry.{PlaceEntry}
use Rattle.js_model.specs.Deliver.{IsDelivered}
use Rattle.js_model.specs.Ready.{some_ready}
use Rattle.js_model.specs.Runs.{Run}
use Rattle.model_laws.specs.Sound.{IsSound}
use Rattle.place_engine.specs.Stepping.{Image, Seen}
use Rattle.place_laws.specs.Calls.{Calls}

-- the calls of a place make a run
abbrev pub LawCalls : {P : Type 0} → (P → Seen) → (Image → State → Type 0) → (State → What → Type 0) → Type 0
LawCalls {P} seen holds outgrows = (old new : P) (entries : List PlaceEntry) → Calls seen holds outgrows old entries new → Run (seen old).place.state entries (seen new).place.state

-- some delivery can be made
abbrev pub CanDeliver : State → ℕ → List Bytes → Type 0
CanDeliver state now listening = (d : Delivery) × (outs : List Out) × (new : State) × IsDelivered state now listening d outs new

-- a place is ready if and only if a delivery can be made
abbrev pub LawReadyPlace : Type 0
LawReadyPlace = (state : State) (now : ℕ) (listening : List Bytes) → IsSound state → IsTrue (some_ready state now listening) ↔ CanDeliver state now listening

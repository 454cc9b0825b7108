-- What is sent to one consumer, by the deliveries of JetStream's consumers.
use Rattle.std.specs.Prelude.{◌++◌, if◌then◌else◌, ℕ, List, [], ◌∷◌}
use Rattle.js_base.specs.Bytes.{Bytes, same}
use Rattle.js_model.specs.declared.entry.Delivered.{Delivered}
use Rattle.js_model.specs.declared.entry.Delivered.TheVariants.{Sent, TooSmall, Emptied}
use Rattle.js_model.specs.declared.entry.Delivery.{Delivery}
use Rattle.js_model.specs.declared.entry.Call.TheVariants.{Step as StepOf, Deliver as DeliverOf}
use Rattle.js_model.specs.declared.entry.PlaceEntry.{PlaceEntry}
use Rattle.js_model.specs.declared.entry.PlaceEntry.TheVariants.{Step, Deliver, Broken}
use Rattle.model_laws.specs.OneConsumer.{drops}

-- what was sent
pub record Sending : Type 0 where
  pub seq : ℕ
  pub count : ℕ
  pub dseq : ℕ

abbrev pub sending_of : Delivered → List Sending
sending_of (Sent seq count dseq) = record { seq = seq; count = count; dseq = dseq } ∷ []
sending_of TooSmall = []
sending_of Emptied = []

abbrev pub sending_to : Bytes → Delivery → List Sending
sending_to name d = if same d.consumer name then sending_of d.what else []

-- what is sent to the consumer of this name, until it or the stream is dropped
abbrev pub sendings : Bytes → List PlaceEntry → List Sending
sendings name [] = []
sendings name (Step seat e now reply outs unsaid ∷ entries) = if drops name e.what then [] else sendings name entries
sendings name (Deliver seat now listening d outs ∷ entries) = sending_to name d ++ sendings name entries
sendings name (Broken seat now (StepOf e) ∷ entries) = []
sendings name (Broken seat now (DeliverOf listening d) ∷ entries) = sending_to name d

-- A consumer that was made within a run, by the consumer creation of the JetStream API: the run up to its making, and from there on.
use Rattle.std.specs.Prelude.{◌≡◌, ◌+◌, ◌++◌, not, length, ℕ, List, ◌∷◌}
use Rattle.js_base.specs.Bytes.{Bytes}
use Rattle.js_base.specs.declared.out.Out.{Out}
use Rattle.js_model.specs.declared.consumer_config.ConsumerConfig.{ConsumerConfig}
use Rattle.js_model.specs.declared.stream.Stream.{Stream}
use Rattle.js_model.specs.declared.stream.State.{State}
use Rattle.js_model.specs.declared.stream.State.TheVariants.{Live}
use Rattle.js_model.specs.declared.event.Event.{Event}
use Rattle.js_model.specs.declared.reply.Reply.{Reply}
use Rattle.js_model.specs.declared.entry.Call.TheVariants.{Step as StepOf, Deliver as DeliverOf}
use Rattle.js_model.specs.declared.entry.PlaceEntry.{PlaceEntry}
use Rattle.js_model.specs.declared.entry.PlaceEntry.TheVariants.{Step, Deliver, Broken}
use Rattle.js_model.specs.Advance.{advance}
use Rattle.js_model.specs.Runs.{RunFrom, IsStep, total_of, new_messages}
use Rattle.model_laws.specs.OneConsumer.{drops}
use Rattle.model_laws.specs.Repeats.{EachEvent}
use Rattle.model_laws.specs.Order.{Makes, IsFromStart}

-- the entry makes the event at its moment, also if its answer goes to nobody
abbrev pub IsEntryOf : Event → ℕ → Reply → List Out → PlaceEntry → Type 0
IsEntryOf e now reply outs (Step seat event moment answer sent unsaid) = (event ≡ e) × (moment ≡ now) × (answer ≡ reply) × (sent ≡ outs)
IsEntryOf e now reply outs (Deliver seat moment listening d sent) = ⊥
IsEntryOf e now reply outs (Broken seat moment (StepOf event)) = (event ≡ e) × (moment ≡ now)
IsEntryOf e now reply outs (Broken seat moment (DeliverOf listening d)) = ⊥

-- An entry of the run makes the consumer, no later one drops it, and what is sent to it begins where its deliver policy does in the stream as it
-- stood then
pub record IsMadeWithin (name : Bytes) (count : ℕ) (old : State) (entries : List PlaceEntry) (new : State) : Type 0 where
  pub before : List PlaceEntry
  pub entry : PlaceEntry
  pub after : List PlaceEntry
  pub split : entries ≡ before ++ entry ∷ after
  pub event : Event
  pub moment : ℕ
  pub reply : Reply
  pub outs : List Out
  pub is : IsEntryOf event moment reply outs entry
  pub stream : Stream
  pub made : State
  pub config : ConsumerConfig
  pub reached : RunFrom count old before (Live stream)
  pub step : IsStep (total_of count old before (Live stream) reached) (Live stream) event moment reply outs made
  pub makes : Makes (Live stream) event reply name config
  pub rest : RunFrom (total_of count old before (Live stream) reached + length (new_messages (Live stream) made)) made after new
  pub kept : EachEvent (λ what. not (drops name what)) after
  pub start : IsFromStart name config (advance stream moment) made after

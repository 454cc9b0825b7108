-- How the states of a place and what a volume holds of them stand to each other: the laws follow from the definitions.
use Rattle.std.specs.Prelude.{◌≡◌, ℕ, List, All}
use Rattle.js_base.specs.Bytes.{Bytes}
use Rattle.js_base.specs.declared.out.Out.{Out}
use Rattle.js_model.specs.declared.stream_config.StreamConfig.{StreamConfig}
use Rattle.js_model.specs.declared.stream.Stream.{Stream}
use Rattle.js_model.specs.declared.stream.State.{State}
use Rattle.js_model.specs.declared.stream.State.TheVariants.{Live}
use Rattle.js_model.specs.declared.event.Event.{Event}
use Rattle.js_model.specs.declared.reply.Reply.{Reply}
use Rattle.js_model.specs.declared.entry.Delivery.{Delivery}
use Rattle.js_model.specs.declared.entry.PlaceEntry.{PlaceEntry}
use Rattle.js_model.specs.Consumers.{empty_stream}
use Rattle.js_model.specs.Deliver.{IsDelivered}
use Rattle.js_model.specs.Lasting.{lasting}
use Rattle.js_model.specs.Runs.{RunFrom, IsStep}
use Rattle.model_laws.specs.Sound.{IsSound}
use Rattle.model_laws.specs.Bounds.{IsBounded}
use Rattle.effects.specs.declared.durable.Durable.{Durable}
use Rattle.effects.specs.Durables.{durable_of, state_of}
use Rattle.effects.specs.Restorable.{IsRestorable}
use Rattle.durable_checks.specs.Storable.{IsFormed, IsStorable, IsOpenable}
use Rattle.consumer_state.specs.Keeping as keeping
use Rattle.restore_laws.specs.Restored.{IsRestored}

-- ---- a state, and what a volume holds of it

-- what is opened from what a volume holds of a state is what outlives a crash of it
abbrev pub LawOpened : Type 0
LawOpened = (s : State) → state_of (durable_of s) ≡ lasting s

-- of which the volume holds the same
abbrev pub LawHeld : Type 0
LawHeld = (s : State) → durable_of (lasting s) ≡ durable_of s

-- what is formed as a log gives it is held of the state that is opened from it
abbrev pub LawHeldOpened : Type 0
LawHeldOpened = (d : Durable) → IsFormed d → durable_of (state_of d) ≡ d

-- ---- what a stream can be restored to

-- a run keeps it
abbrev pub LawRestorable : Type 0
LawRestorable = (count : ℕ) (old new : State) (entries : List PlaceEntry) → IsRestorable old → RunFrom count old entries new → IsRestorable new

-- an event does
abbrev pub LawRestorableEvent : Type 0
LawRestorableEvent = (count : ℕ) (old new : State) (e : Event) (now : ℕ) (reply : Reply) (outs : List Out) → IsRestorable old → IsStep count old e now reply outs new → IsRestorable new

-- and a delivery
abbrev pub LawRestorableDelivery : Type 0
LawRestorableDelivery = (old new : State) (now : ℕ) (listening : List Bytes) (d : Delivery) (outs : List Out) → IsRestorable old → IsDelivered old now listening d outs new → IsRestorable new

-- an empty stream can be restored
abbrev pub LawRestorableEmpty : Type 0
LawRestorableEmpty = (incarnation now : ℕ) (config : StreamConfig) → IsRestorable (Live (empty_stream incarnation config now))

-- what outlives a crash of a state can be restored, if the state can
abbrev pub LawRestorableLasting : Type 0
LawRestorableLasting = (s : State) → IsRestorable s → IsRestorable (lasting s)

-- ---- what is asked of what a volume holds

-- at the end of each batch of records
abbrev pub LawStorable : Type 0
LawStorable = (s : State) → IsSound s → IsBounded s → IsStorable (durable_of s)

-- and of the last one
abbrev pub LawOpenable : Type 0
LawOpenable = (s : State) → IsSound s → IsRestorable s → IsOpenable (durable_of s)

-- what has passed both is restored
abbrev pub LawRestored : Type 0
LawRestored = (d : Durable) → IsFormed d → IsStorable d → IsOpenable d → IsRestored (state_of d)

-- with each of its consumers
abbrev pub LawRestoredConsumers : Type 0
LawRestoredConsumers = (s : Stream) → IsRestored (Live s) → All keeping.IsRestorable s.consumers

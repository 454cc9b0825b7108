-- What the records of an event and of a delivery make of what a volume held before.
use Rattle.std.specs.Prelude.{◌≡◌, ℕ, List, [], Some, ◌↔◌}
use Rattle.js_base.specs.Bytes.{Bytes}
use Rattle.js_base.specs.declared.out.Out.{Out}
use Rattle.js_model.specs.declared.stream.State.{State}
use Rattle.js_model.specs.declared.event.Event.{Event}
use Rattle.js_model.specs.declared.reply.Reply.{Reply}
use Rattle.js_model.specs.declared.entry.Delivery.{Delivery}
use Rattle.js_model.specs.Deliver.{IsDelivered}
use Rattle.js_model.specs.Lasting.{lasting}
use Rattle.js_model.specs.Runs.{IsStep}
use Rattle.model_laws.specs.Sound.{IsSound}
use Rattle.model_laws.specs.Bounds.{IsBounded}
use Rattle.effects.specs.Durables.{durable_of}
use Rattle.effects.specs.Restorable.{IsInTime}
use Rattle.effects.specs.Effects.{event_effects, delivery_effects}
use Rattle.effects.specs.Folding.{fold_all}
use Rattle.effects.specs.declared.effect.Effect.{Effect}

-- the records lead from what outlives a crash of the one state to what does of the other
abbrev pub Leads : State → List Effect → State → Type 0
Leads old effects new = fold_all effects (Some (durable_of old)) ≡ Some (durable_of new)

abbrev pub LawEvents : Type 0
LawEvents = (count : ℕ) (old new : State) (e : Event) (now : ℕ) (reply : Reply) (outs : List Out) (x : IsStep count old e now reply outs new)
    → IsSound old → IsBounded old → Leads old (event_effects old e.what now x.event.room) new

abbrev pub LawDeliveries : Type 0
LawDeliveries = (old new : State) (now : ℕ) (listening : List Bytes) (d : Delivery) (outs : List Out) → IsDelivered old now listening d outs new
    → IsSound old → IsBounded old → Leads old (delivery_effects old now d new) new

-- an event has no record if and only if nothing of what outlives a crash changes
abbrev pub LawNoRecords : Type 0
LawNoRecords = (count : ℕ) (old new : State) (e : Event) (now : ℕ) (reply : Reply) (outs : List Out) (x : IsStep count old e now reply outs new)
    → IsSound old → IsBounded old → (event_effects old e.what now x.event.room ≡ []) ↔ (lasting old ≡ lasting new)

-- and so it is of a delivery
abbrev pub LawNoRecordsSent : Type 0
LawNoRecordsSent = (old new : State) (now : ℕ) (listening : List Bytes) (d : Delivery) (outs : List Out) → IsDelivered old now listening d outs new
    → IsSound old → IsBounded old → (delivery_effects old now d new ≡ []) ↔ (lasting old ≡ lasting new)

-- the moments of what is stored do not fall, whatever event is made
abbrev pub LawInTime : Type 0
LawInTime = (count : ℕ) (old new : State) (e : Event) (now : ℕ) (reply : Reply) (outs : List Out) → IsStep count old e now reply outs new → IsInTime old → IsInTime new

-- and whatever delivery
abbrev pub LawInTimeSent : Type 0
LawInTimeSent = (old new : State) (now : ℕ) (listening : List Bytes) (d : Delivery) (outs : List Out) → IsDelivered old now listening d outs new → IsInTime old → IsInTime new

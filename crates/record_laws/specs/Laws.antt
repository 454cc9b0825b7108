-- Which changes a place hands over to be recorded: the laws follow from the definitions.
use Rattle.std.specs.Prelude.{ℕ, ◌<◌, ◌^◌, Bool, IsTrue, List, ◌++◌}
use Rattle.std.specs.List.{list_all}
use Rattle.js_base.specs.Bytes.{Bytes}
use Rattle.js_base.specs.declared.out.Out.{Out}
use Rattle.js_model.specs.declared.stream.State.{State}
use Rattle.js_model.specs.declared.event.Event.{Event}
use Rattle.js_model.specs.declared.entry.Delivery.{Delivery}
use Rattle.js_model.specs.Proper.{is_proper}
use Rattle.js_model.specs.Runs.{IsDeliverStep}
use Rattle.model_laws.specs.Sound.{IsSound}
use Rattle.model_laws.specs.Bounds.{IsBounded}
use Rattle.effects.specs.declared.effect.Effect.{Effect}
use Rattle.effects.specs.Effects.{event_effects, delivery_effects}
use Rattle.op_records.specs.Allowed.{is_record}

-- each change of an event may be recorded, whether the store has a block for a message or not
abbrev pub LawEventRecords : Type 0
LawEventRecords = (old : State) (e : Event) (now : ℕ) (room : Bool) → IsTrue (is_proper e) → now < 2 ^ 62 → IsSound old → IsBounded old
    → IsTrue (list_all is_record (event_effects old e.what now room))

-- and each of a delivery
abbrev pub LawDeliveryRecords : Type 0
LawDeliveryRecords = (old new : State) (now : ℕ) (listening : List Bytes) (d : Delivery) (outs : List Out) → IsDeliverStep old now listening d outs new → IsSound old → IsBounded old
    → IsTrue (list_all is_record (delivery_effects old now d new))

-- changes one behind the other may, if each of the two lists may
abbrev pub LawRecordsTogether : Type 0
LawRecordsTogether = (waiting made : List Effect) → IsTrue (list_all is_record waiting) → IsTrue (list_all is_record made) → IsTrue (list_all is_record (waiting ++ made))

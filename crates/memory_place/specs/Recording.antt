-- Which records a call on a place tells, whatever became of it.
use Rattle.std.specs.Prelude.{◌≡◌, ◌≤◌, ℕ, Bool, true, false, List, [], ◌++◌, map, Option, Some, None, Result, Ok, Err, IsErr, ⊤}
use Rattle.js_base.specs.Bytes.{Bytes}
use Rattle.js_base.specs.declared.memory.NoMemory.{NoMemory}
use Rattle.js_model.specs.declared.consumer_config.AckPolicy.{AckPolicy}
use Rattle.js_model.specs.declared.stream.Stream.{Stream}
use Rattle.js_model.specs.declared.stream.State.{State}
use Rattle.js_model.specs.declared.stream.State.TheVariants.{Vacant, Live}
use Rattle.js_model.specs.declared.ack.AckKind.{AckKind}
use Rattle.js_model.specs.declared.ack.AckKind.TheVariants.{Ack as Acknowledge, Nak, Wpi, Next, Term}
use Rattle.js_model.specs.declared.event.What.{What}
use Rattle.js_model.specs.declared.event.What.TheVariants.{Tick}
use Rattle.js_model.specs.declared.reply.Reply.{Reply}
use Rattle.js_model.specs.declared.reply.Reply.TheVariants.{Refused}
use Rattle.js_model.specs.declared.entry.Delivered.{Delivered}
use Rattle.js_model.specs.declared.entry.Delivered.TheVariants.{Sent, TooSmall, Emptied}
use Rattle.js_model.specs.declared.entry.Delivery.{Delivery}
use Rattle.js_model.specs.Retention.{kept}
use Rattle.consumer_state.specs.declared.fault.MakeFault.{MakeFault}
use Rattle.consumer_state.specs.declared.fault.MakeFault.TheVariants.{Refused as Forbidden, NoMemory as OutOfMemory}
use Rattle.effects.specs.declared.effect.Effect.{Effect}
use Rattle.effects.specs.declared.effect.Effect.TheVariants.{Deliver, Acked, Due}
use Rattle.effects.specs.TimeEffects.{remove_of, time_effects}
use Rattle.effects.specs.Effects.{event_effects, delivery_effects, live_effects, vacant_effects, first_ended}
use Rattle.removals.specs.Leaving.{leaving}
use Rattle.stream_state.specs.Removing.{HasRoomForOne}
use Rattle.place_records.specs.declared.made.Made.{Made}
use Rattle.place_records.specs.declared.made.OwnRecords.{OwnRecords}
use Rattle.place_records.specs.declared.made.TimeRecords.{TimeRecords}
use Rattle.place_records.specs.Records.{own_in}
use Rattle.place_engine.specs.declared.faults.Left.{Left}
use Rattle.place_engine.specs.declared.faults.Left.TheVariants.{Nothing, Ticked, Unsaid}

-- those of a call that finds no memory: none, or those of a tick
abbrev pub TellsLeft : Left → State → ℕ → List Effect → Type 0
TellsLeft Nothing old now effects = effects ≡ []
TellsLeft Ticked old now effects = effects ≡ event_effects old Tick now true
TellsLeft (Unsaid refused) old now effects = ⊥

-- those of an event; `room` is whether there is room for it
abbrev pub TellsEventIn : Bool → Result Reply Left → State → What → ℕ → List Effect → Type 0
TellsEventIn room (Ok reply) old what now effects = effects ≡ event_effects old what now room
TellsEventIn room (Err left) old what now effects = TellsLeft left old now effects

-- the same where there is
abbrev pub TellsEvent : Result Reply Left → State → What → ℕ → List Effect → Type 0
TellsEvent = TellsEventIn true

-- those of a delivery, if one is made
abbrev pub TellsSent : Result (Option Delivery) Left → State → ℕ → State → List Effect → Type 0
TellsSent (Ok (Some delivery)) old now new effects = effects ≡ delivery_effects old now delivery new
TellsSent (Ok None) old now new effects = effects ≡ []
TellsSent (Err left) old now new effects = TellsLeft left old now effects

-- ---- time's, and the event's own

abbrev pub passing_effects : State → ℕ → List Effect
passing_effects (Vacant i) now = []
passing_effects (Live s) now = time_effects s now

-- once time has come to the moment
abbrev pub asking_effects_in : Bool → State → What → ℕ → List Effect
asking_effects_in room (Vacant i) what now = vacant_effects i what now room
asking_effects_in room (Live s) what now = live_effects s what room

-- the same where there is room
abbrev pub asking_effects : State → What → ℕ → List Effect
asking_effects = asking_effects_in true

-- those of what was asked, once the retention has let the messages go that it does not keep
abbrev pub own_then : OwnRecords → Stream → List Effect
own_then own s = own_in own ++ map remove_of (leaving own.removed.below s.messages (kept s).messages)

-- ---- memory for the messages that leave

abbrev pub HasTimeRoom : State → TimeRecords → Type 0
HasTimeRoom (Vacant i) time = ⊤
HasTimeRoom (Live s) time = 1 ≤ time.aged.spare

abbrev pub HasOwnRoom : State → OwnRecords → Type 0
HasOwnRoom (Vacant i) own = ⊤
HasOwnRoom (Live s) own = HasRoomForOne s own.removed

pub record HasMadeRoom (state : State) (made : Made) : Type 0 where
  pub time : HasTimeRoom state made.time
  pub own : HasOwnRoom state made.own

-- ---- single records

-- the least sequence that an acknowledgement of n ends
abbrev pub first_ended_by : AckPolicy → ℕ → AckKind → ℕ
first_ended_by policy n Acknowledge = first_ended policy n
first_ended_by policy n (Nak delay) = n
first_ended_by policy n Wpi = n
first_ended_by policy n (Next ask) = first_ended policy n
first_ended_by policy n Term = n

-- a delivery ended, or is due at another moment
abbrev pub acked_effect : Bytes → AckPolicy → ℕ → AckKind → Bool → Option ℕ → Option Effect
acked_effect name policy n kind true due = Some (Acked name (first_ended_by policy n kind) n)
acked_effect name policy n kind false None = None
acked_effect name policy n kind false (Some due) = Some (Due name n due)

abbrev pub sent_effect : Bytes → Delivered → ℕ → Option Effect
sent_effect name (Sent seq count dseq) due = Some (Deliver name seq count due dseq)
sent_effect name TooSmall due = None
sent_effect name Emptied due = None

-- ---- what is told of a consumer that was not made

abbrev pub TellsFault : MakeFault → Result Reply NoMemory → Type 0
TellsFault (Forbidden e) told = told ≡ Ok (Refused e)
TellsFault OutOfMemory told = IsErr told

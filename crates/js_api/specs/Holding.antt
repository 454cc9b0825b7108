-- One hold on a place: what was asked of it at a moment is made there, deliveries follow, and all that these send is routed.
use Rattle.std.specs.Prelude.{◌≡◌, ◌≢◌, ◌⊎◌, ◌<◌, ◌≤◌, ◌+◌, ◌-◌, ◌^◌, ℕ, Bool, true, false, List, [], ◌∷◌, ◌++◌, length, filter, map, sum_by, MatchOption, Option, Some, None, if◌then◌else◌}
use Rattle.js_base.specs.Bytes.{Bytes, is_empty}
use Rattle.js_base.specs.declared.out.Out.{Out}
use Rattle.js_model.specs.declared.stream.State.{State}
use Rattle.js_model.specs.declared.stream.State.TheVariants.{Vacant, Live}
use Rattle.js_model.specs.declared.consumer.Consumer.{Consumer}
use Rattle.js_model.specs.declared.event.Event.{Event}
use Rattle.js_model.specs.declared.event.What.{What}
use Rattle.js_model.specs.declared.event.What.TheVariants.{Tick as LetPass}
use Rattle.js_model.specs.declared.reply.Reply.{Reply}
use Rattle.js_model.specs.declared.reply.Reply.TheVariants.{Silent}
use Rattle.js_model.specs.declared.entry.PlaceEntry.{PlaceEntry}
use Rattle.js_model.specs.declared.entry.PlaceEntry.TheVariants.{Step, Deliver, Broken}
use Rattle.js_model.specs.declared.entry.Call.TheVariants.{Step as StepOf, Deliver as DeliverOf}
use Rattle.js_model.specs.declared.desk.PlaceAt.{PlaceAt}
use Rattle.js_model.specs.Events.{is_refused}
use Rattle.js_model.specs.Streams.{is_push}
use Rattle.js_model.specs.Ready.{some_ready}
use Rattle.js_api.specs.declared.fault.DeskFault.{DeskFault}
use Rattle.js_api.specs.declared.fault.DeskFault.TheVariants as faults
use Rattle.js_api.specs.declared.outcome.Became.{Became}
use Rattle.js_api.specs.declared.outcome.Became.TheVariants.{Made, Unsaid, Ticked, Nothing, Broke, Stopped, Gone}
use Rattle.js_api.specs.declared.outcome.Outcome.{Outcome}
use Rattle.js_model.specs.PlaceStates.{VolumeAt}
use Rattle.js_api.specs.Entries.{Reading, Sent, Unsent, Hold, entries_in, DeskEntry, Held, Stirred, Halted, Missed}
use Rattle.js_api.specs.Stages.{IsWorn}
use Rattle.js_api.specs.Outputs.{outs_of, stream_name}

-- ---- the step

abbrev pub event_at : PlaceAt → What → Event
event_at at what = record { incarnation = at.incarnation; what = what }

abbrev pub step : ℕ → PlaceAt → What → ℕ → Reply → List Out → Bool → List PlaceEntry
step seat at what now reply outs unsaid = Step seat (event_at at what) now reply outs unsaid ∷ []

-- what was asked was made one after the other, by the same seat at the moment, and answered
abbrev pub AreSteps : ℕ → PlaceAt → ℕ → List What → List PlaceEntry → Type 0
AreSteps seat at now [] steps = steps ≡ []
AreSteps seat at now (what ∷ whats) steps =
    (reply : Reply) × (outs : List Out) × (more : List PlaceEntry)
    × (steps ≡ step seat at what now reply outs false ++ more) × AreSteps seat at now whats more

-- ---- who listens

abbrev pub consumers_of : State → List Consumer
consumers_of (Vacant i) = []
consumers_of (Live s) = s.consumers

abbrev pub push_consumers : State → List Consumer
push_consumers state = filter is_push (consumers_of state)

-- the queue name of its deliver group, if it has one
abbrev pub group_of : Consumer → Option Bytes
group_of c = if is_empty c.config.deliver_group then None else Some c.config.deliver_group

abbrev pub reading_of : Consumer → Bool → Reading
reading_of c heard = record { consumer = c.name; subject = c.config.deliver_subject; group = group_of c; heard = heard }

-- one reading for each consumer, in order
abbrev pub AreReadings : List Consumer → List Reading → Type 0
AreReadings [] readings = readings ≡ []
AreReadings (c ∷ cs) readings = (heard : Bool) × (more : List Reading) × (readings ≡ reading_of c heard ∷ more) × AreReadings cs more

-- the consumers for whom somebody listens
abbrev pub listening_of : List Reading → List Bytes
listening_of readings = map (λ (r : Reading). r.consumer) (filter (λ (r : Reading). r.heard) readings)

-- ---- the deliveries

-- Deliveries at the moment, by the same seat, to whom somebody listens. The last one may have broken, or time may have passed in its place because
-- memory ran out.
abbrev pub AreDeliveries : ℕ → PlaceAt → ℕ → List Bytes → Option DeskFault → List PlaceEntry → Type 0
AreDeliveries seat at now listening fault [] = Unit {0}
AreDeliveries seat at now listening fault (Deliver by moment heard d outs ∷ more) =
    (by ≡ seat) × (moment ≡ now) × (heard ≡ listening) × AreDeliveries seat at now listening fault more
AreDeliveries seat at now listening fault (Step by event moment reply outs unsaid ∷ more) =
    (by ≡ seat) × (event.what ≡ LetPass) × (moment ≡ now) × (fault ≡ Some faults.NoMemory) × (more ≡ [])
AreDeliveries seat at now listening fault (Broken by moment (DeliverOf heard d) ∷ more) = (by ≡ seat) × (moment ≡ now) × (heard ≡ listening) × (more ≡ [])
AreDeliveries seat at now listening fault (Broken by moment (StepOf event) ∷ more) = ⊥

-- for the first of these consumers, in order
abbrev pub AreFirstReadings : List Consumer → List Reading → Type 0
AreFirstReadings cs [] = Unit {0}
AreFirstReadings [] (reading ∷ more) = ⊥
AreFirstReadings (c ∷ cs) (reading ∷ more) = (heard : Bool) × (reading ≡ reading_of c heard) × AreFirstReadings cs more

-- who listens was read for each push consumer; or the call ended before that, and nothing was delivered
abbrev pub AreAsked : Option DeskFault → Hold → Type 0
AreAsked None hold = AreReadings (push_consumers hold.between) hold.readings
AreAsked (Some fault) hold =
    AreReadings (push_consumers hold.between) hold.readings
    ⊎ (AreFirstReadings (push_consumers hold.between) hold.readings × (hold.deliveries ≡ []))

-- the bytes of an output are those of its five fields
abbrev pub bytes_or_none : Option Bytes → ℕ
bytes_or_none None = 0
bytes_or_none (Some reply) = length reply

abbrev pub bytes_of : Out → ℕ
bytes_of out = length out.to + length out.subject + bytes_or_none out.reply + length out.headers + length out.payload

abbrev pub most_deliveries : ℕ
most_deliveries = 256

-- 4 MiB
abbrev pub most_bytes : ℕ
most_bytes = 4194304

-- so much was done that a hold may end while a consumer is ready
abbrev pub IsFull : Hold → Type 0
IsFull hold = (most_deliveries ≤ length hold.deliveries) ⊎ (most_bytes ≤ sum_by bytes_of (outs_of hold.before (entries_in hold)))

-- the volume failed in a delivery, which is told to nobody
abbrev pub delivery_broke : List PlaceEntry → Bool
delivery_broke [] = false
delivery_broke (Broken seat now call ∷ more) = true
delivery_broke (Step seat event now reply outs unsaid ∷ more) = delivery_broke more
delivery_broke (Deliver seat now listening d outs ∷ more) = delivery_broke more

abbrev pub is_ready_at : ℕ → Hold → Bool
is_ready_at now hold = if delivery_broke hold.deliveries then false else some_ready hold.after now (listening_of hold.readings)

-- ---- its end

-- the numbers of generations are used up, and this is the last one
abbrev pub IsLastGeneration : ℕ → VolumeAt → Type 0
IsLastGeneration number volume = (number ≡ volume.generation) × (number ≡ 2 ^ 62 - 1)

-- nothing is left unsaid, unless memory ran out, or the numbers of the router's turns or of the store's generations
abbrev pub Explains : Option DeskFault → Bool → Hold → Type 0
Explains None unsaid hold = (unsaid ≡ false) × (hold.sending ≡ Sent)
Explains (Some faults.NoMemory) unsaid hold = Unit {0}
Explains (Some faults.TooManySubs) unsaid hold = ⊥
Explains (Some (faults.Worn number)) unsaid hold =
    (hold.sending ≡ Unsent number) ⊎ (IsLastGeneration number hold.volume_after × ((unsaid ≡ true) ⊎ (hold.deliveries ≢ [])))
Explains (Some (faults.NoSession latest)) unsaid hold = ⊥

-- the call goes on, and a consumer is ready only if the hold was full
abbrev pub MayEnd : Option DeskFault → Bool → Hold → Type 0
MayEnd None ready hold = ready ≡ true → IsFull hold
MayEnd (Some fault) ready hold = Unit {0}

-- what was asked first was made, then the last step with this reply, and the rest of the hold followed: each delivery while the outputs before it had
-- fewer bytes than end a hold
pub record IsHoldOf (at : PlaceAt) (first : List What) (what : What) (now : ℕ) (reply : Reply) (ready : Bool) (fault : Option DeskFault) (hold : Hold) : Type 0 where
  pub seat : ℕ
  pub outs : List Out
  pub unsaid : Bool
  pub before : List PlaceEntry
  pub at_is : hold.at ≡ at
  pub made_first : AreSteps seat at now first before
  pub steps : hold.steps ≡ before ++ step seat at what now reply outs unsaid
  pub asked : AreAsked fault hold
  pub deliveries : AreDeliveries seat at now (listening_of hold.readings) fault hold.deliveries
  pub few : length hold.deliveries ≤ most_deliveries
  pub room : (earlier : List PlaceEntry) (last : PlaceEntry) → hold.deliveries ≡ earlier ++ last ∷ []
      → sum_by bytes_of (outs_of hold.before (hold.steps ++ earlier)) < most_bytes
  pub ready_is : MatchOption fault (ready ≡ is_ready_at now hold) (λ f. Unit {0})
  pub explained : Explains fault unsaid hold
  pub ends : MayEnd fault ready hold

-- one thing was asked
abbrev pub IsHold : PlaceAt → What → ℕ → Reply → Bool → Option DeskFault → Hold → Type 0
IsHold at what now reply ready fault hold = IsHoldOf at [] what now reply ready fault hold

-- the volume failed in the step, which nobody is told of by the place
pub record IsBrokenHold (at : PlaceAt) (what : What) (now : ℕ) (stream : Bytes) (hold : Hold) : Type 0 where
  pub seat : ℕ
  pub at_is : hold.at ≡ at
  pub steps : hold.steps ≡ Broken seat now (StepOf (event_at at what)) ∷ []
  pub readings : hold.readings ≡ []
  pub deliveries : hold.deliveries ≡ []
  pub sending : hold.sending ≡ Sent
  pub stream_is : stream ≡ stream_name hold.before

-- ---- what became of it

-- no step was made: memory ran out, the place's turn cannot be entered, or the numbers of its store's generations are used up
abbrev pub Unmakes : PlaceAt → Option DeskFault → List DeskEntry → Type 0
Unmakes at None entries = ⊥
Unmakes at (Some faults.NoMemory) entries = entries ≡ []
Unmakes at (Some faults.TooManySubs) entries = ⊥
Unmakes at (Some (faults.Worn number)) entries =
    IsWorn number entries
    ⊎ ((before after : VolumeAt) × (entries ≡ Stirred at before after false ∷ []) × IsLastGeneration number after)
Unmakes at (Some (faults.NoSession latest)) entries = ⊥

-- it is told without a fault, and no consumer is ready
abbrev pub IsQuiet : Bool → Option DeskFault → Type 0
IsQuiet ready fault = (ready ≡ false) × (fault ≡ None)

abbrev pub HoldsBy : Became → PlaceAt → What → ℕ → Bool → Option DeskFault → List DeskEntry → Type 0
HoldsBy (Made reply) at what now ready fault entries =
    (hold : Hold) × (entries ≡ Held hold ∷ []) × IsHold at what now reply ready fault hold
HoldsBy (Unsaid refused) at what now ready fault entries =
    (hold : Hold) × (reply : Reply) × (held : IsHold at what now reply ready fault hold)
    × (entries ≡ Held hold ∷ []) × (held.unsaid ≡ true) × (refused ≡ is_refused reply)
HoldsBy Ticked at what now ready fault entries =
    (hold : Hold) × (entries ≡ Held hold ∷ []) × IsHold at LetPass now Silent ready fault hold × (fault ≡ Some faults.NoMemory)
HoldsBy Nothing at what now ready fault entries = (ready ≡ false) × Unmakes at fault entries
HoldsBy (Broke stream) at what now ready fault entries =
    (hold : Hold) × (entries ≡ Held hold ∷ []) × IsBrokenHold at what now stream hold × IsQuiet ready fault
HoldsBy (Stopped stream) at what now ready fault entries =
    (state : State) × (entries ≡ Halted at state ∷ []) × (stream ≡ stream_name state) × IsQuiet ready fault
HoldsBy Gone at what now ready fault entries = (kept : ℕ) × (entries ≡ Missed at kept ∷ []) × IsQuiet ready fault

-- the volume may have been called before what was asked, or without it; if it failed in that, its place is stopped, and nothing is made there
abbrev pub Prepares : PlaceAt → List DeskEntry → Type 0
Prepares at entries = (entries ≡ []) ⊎ ((before after : VolumeAt) × (failed : Bool) × (entries ≡ Stirred at before after failed ∷ []))

-- a hold on this place, of what was asked there at the moment, came to that
pub record Holds (at : PlaceAt) (what : What) (now : ℕ) (outcome : Outcome) (entries : List DeskEntry) : Type 0 where
  pub first : List DeskEntry
  pub more : List DeskEntry
  pub entries_are : entries ≡ first ++ more
  pub prepares : Prepares at first
  pub holds : HoldsBy outcome.became at what now outcome.ready outcome.fault more

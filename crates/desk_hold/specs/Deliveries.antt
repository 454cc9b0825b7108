-- The deliveries of a hold, one after the other, and how they end: by JetStream's pull and push consumers, with bounds of this server's own.
use Rattle.std.specs.Prelude.{◌≡◌, ◌≢◌, ◌⊎◌, ◌<◌, ◌≤◌, ◌+◌, ◌-◌, ◌^◌, ℕ, true, false, List, [], ◌∷◌, ◌++◌, length, sum_by, Option, None, Some, Result, Ok, Err}
use Rattle.js_base.specs.Bytes.{Bytes}
use Rattle.js_base.specs.declared.out.Out.{Out}
use Rattle.js_model.specs.declared.event.What.TheVariants.{Tick as LetPass}
use Rattle.js_model.specs.declared.reply.Reply.TheVariants.{Silent}
use Rattle.js_model.specs.declared.entry.Delivery.{Delivery}
use Rattle.js_model.specs.declared.entry.PlaceEntry.{PlaceEntry}
use Rattle.js_model.specs.declared.entry.PlaceEntry.TheVariants.{Step, Deliver, Broken}
use Rattle.js_model.specs.declared.entry.Call.TheVariants.{Step as StepOf, Deliver as DeliverOf}
use Rattle.js_model.specs.declared.desk.PlaceAt.{PlaceAt}
use Rattle.js_model.specs.PlaceStates.{PlaceIn}
use Rattle.js_model.specs.Ready.{some_ready}
use Rattle.js_model.specs.Runs.{IsDeliverStep}
use Rattle.js_api.specs.declared.fault.DeskFault.{DeskFault}
use Rattle.js_api.specs.declared.fault.DeskFault.TheVariants as faults
use Rattle.js_api.specs.Holding.{AreDeliveries, bytes_of, delivery_broke, most_bytes, most_deliveries}
use Rattle.js_api.specs.Outputs.{outs_from}
use Rattle.js_api.specs.Worlds.{IsLater, Stops}
use Rattle.js_model.specs.declared.stream.State.{State}
use Rattle.place_engine.specs.Stepping.{Image, Seen}
use Rattle.place_engine.specs.declared.faults.PlaceFault.{PlaceFault}
use Rattle.place_engine.specs.declared.faults.PlaceFault.TheVariants as places
use Rattle.desk_hold.specs.Crashes.{MayCommit, Never, Outlasts}
use Rattle.desk_hold.specs.Steps.{IsMade}
use Rattle.desk_hold.specs.declared.delivering.Ending.{Ending}
use Rattle.desk_hold.specs.declared.delivering.Ending.TheVariants.{Quiet, Full, Broke, Short, WornOut}

-- ---- one delivery

-- a delivery was made at a place that was not stopped, which is a step of the place's run
pub record IsSentAt (now : ℕ) (listening : List Bytes) (d : Delivery) (outs : List Out) (old new : PlaceIn) : Type 0 where
  pub going : old.stopped ≡ None
  pub step : IsDeliverStep old.state now listening d outs new.state
  pub stored : new.stored ≤ old.stored
  pub later : IsLater old.volume new.volume

-- no more was made; the volume may have been called
pub record Pauses (old new : PlaceIn) : Type 0 where
  pub going : old.stopped ≡ None
  pub state : new.state ≡ old.state
  pub stored : new.stored ≡ old.stored
  pub stopped : new.stopped ≡ None
  pub later : IsLater old.volume new.volume

-- ---- all of them

-- The entries led from the one place to the other, and sent this: deliveries; and in the place of a last one time may have passed, or it broke
abbrev pub Led : PlaceIn → List PlaceEntry → List Out → PlaceIn → Type 0
Led old [] sent new = Pauses old new × (sent ≡ [])
Led old (Deliver seat now listening d outs ∷ more) sent new =
    (mid : PlaceIn) × (rest : List Out) × IsSentAt now listening d outs old mid × (mid.stopped ≡ None) × (sent ≡ outs ++ rest) × Led mid more rest new
Led old (Step seat event now reply outs unsaid ∷ more) sent new =
    IsMade event now reply outs old new × (event.what ≡ LetPass) × (reply ≡ Silent) × (new.stopped ≡ None) × (sent ≡ outs) × (more ≡ [])
Led old (Broken seat now (DeliverOf listening d) ∷ more) sent new =
    (outs : List Out) × IsSentAt now listening d outs old new × Stops true old.volume new.volume new.stopped × (sent ≡ []) × (more ≡ [])
Led old (Broken seat now (StepOf event) ∷ more) sent new = ⊥

-- ---- how they end

-- by the fault of a delivery. The place was not stopped before, and no delivery is for another incarnation
abbrev pub ending_by : PlaceFault → Ending
ending_by (places.NoMemory left) = Short
ending_by places.StoreFault = Broke
ending_by (places.Stopped count) = Broke
ending_by (places.Gone kept) = Broke
ending_by (places.Worn refused) = WornOut

-- why no further one is made after one that came to that; none if it was made
abbrev pub ending_after : Result (Option Delivery) PlaceFault → Option Ending
ending_after (Ok (Some d)) = None
ending_after (Ok None) = Some Quiet
ending_after (Err fault) = Some (ending_by fault)

-- the fault by which the call of the desk ends with the hold, if it does
abbrev pub fault_by : Ending → Option DeskFault
fault_by Quiet = None
fault_by Full = None
fault_by Broke = None
fault_by Short = Some faults.NoMemory
fault_by WornOut = Some (faults.Worn (2 ^ 62 - 1))

-- no consumer is ready any more; the hold may end; the last one broke; memory ran out; or the numbers of the store's generations did, at the last delivery
abbrev pub EndsSo : Ending → ℕ → List Bytes → List PlaceEntry → PlaceIn → List Out → Type 0
EndsSo Quiet now listening entries new outs = (delivery_broke entries ≡ false) × (some_ready new.state now listening ≡ false)
EndsSo Full now listening entries new outs = (delivery_broke entries ≡ false) × ((most_deliveries ≤ length entries) ⊎ (most_bytes ≤ sum_by bytes_of outs))
EndsSo Broke now listening entries new outs = delivery_broke entries ≡ true
EndsSo Short now listening entries new outs = Unit {0}
EndsSo WornOut now listening entries new outs = (entries ≢ []) × (new.volume.generation ≡ 2 ^ 62 - 1)

-- Before the last one these outputs and those of the earlier ones had fewer bytes than end a hold. What a delivery sends does not depend on the
-- stream's name
abbrev pub HasRoom : List Out → List PlaceEntry → Type 0
HasRoom outs entries =
    (earlier : List PlaceEntry) (last : PlaceEntry) → entries ≡ earlier ++ last ∷ []
    → (stream : Bytes) → sum_by bytes_of outs + sum_by bytes_of (outs_from stream earlier) < most_bytes

module _ (holds : Image → State → Type 0) where
  -- they were made by this seat at the moment to whom somebody listens, at most so many, while there was room, led from the one place to the other, and
  -- what they sent was added; none is confirmed
  pub record DeliversOn (most seat : ℕ) (at : PlaceAt) (now : ℕ) (listening : List Bytes) (ending : Ending) (old new : Seen) (before after : List Out) : Type 0 where
    pub entries : List PlaceEntry
    pub sent : List Out
    pub few : length entries ≤ most
    pub room : HasRoom before entries
    pub are : AreDeliveries seat at now listening (fault_by ending) entries
    pub led : Led old.place entries sent new.place
    pub outlasts : Outlasts holds Never entries old new
    pub added : after ≡ before ++ sent
    pub ends : EndsSo ending now listening entries new.place after

  -- one more was made and told; or the deliveries end so
  abbrev pub GoesOn : ℕ → List Bytes → Option Ending → Seen → Seen → List Out → List Out → Type 0
  GoesOn now listening None old new before after =
      (d : Delivery) × (outs : List Out)
      × IsSentAt now listening d outs old.place new.place × (new.place.stopped ≡ None) × (after ≡ before ++ outs) × MayCommit holds old new
  GoesOn now listening (Some ending) old new before after = (seat : ℕ) (at : PlaceAt) → DeliversOn 1 seat at now listening ending old new before after

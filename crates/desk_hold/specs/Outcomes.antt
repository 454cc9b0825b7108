-- What a hold came to, as its parts tell it.
use Rattle.std.specs.Prelude.{◌≡◌, ◌-◌, ◌^◌, ℕ, Bool, true, false, List, Option, None, Some}
use Rattle.std.specs.Option.{option_or}
use Rattle.js_base.specs.Bytes.{Bytes}
use Rattle.js_base.specs.declared.out.Out.{Out}
use Rattle.js_model.specs.Router.{RouteCall, RouteTold}
use Rattle.js_api.specs.declared.fault.DeskFault.{DeskFault}
use Rattle.js_api.specs.declared.fault.DeskFault.TheVariants as faults
use Rattle.js_api.specs.declared.outcome.Became.{Became}
use Rattle.js_api.specs.declared.outcome.Became.TheVariants.{Unsaid, Nothing, Ticked, Broke, Stopped, Gone}
use Rattle.js_api.specs.declared.outcome.Outcome.{Outcome}
use Rattle.js_api.specs.Entries.{Sending, Sent, Short, Unsent}
use Rattle.place_engine.specs.declared.faults.PlaceFault.{PlaceFault}
use Rattle.place_engine.specs.declared.faults.PlaceFault.TheVariants as places
use Rattle.place_engine.specs.declared.faults.Left.TheVariants as left
use Rattle.desk_hold.specs.Ports.{Sends}
use Rattle.desk_hold.specs.declared.following.Following.{Following}
use Rattle.desk_hold.specs.declared.following.Following.TheVariants.{Heard, Unheard}

-- why a call ends with a hold, if there is a reason: its answer is unsaid, or an output found no memory, or no turn was left
abbrev pub fault_of : Sending → Bool → Option DeskFault
fault_of Sent false = None
fault_of Sent true = Some faults.NoMemory
fault_of Short unsaid = Some faults.NoMemory
fault_of (Unsent number) unsaid = Some (faults.Worn number)

-- without a fault, and no consumer is ready
abbrev pub quietly : Became → Outcome
quietly became = record { became = became; ready = false; fault = None }

-- memory ran out
abbrev pub shortly : Became → Outcome
shortly became = record { became = became; ready = false; fault = Some faults.NoMemory }

-- the numbers of the store's generations are used up, and this is the last one
abbrev pub worn_out : Became → Outcome
worn_out became = record { became = became; ready = false; fault = Some (faults.Worn (2 ^ 62 - 1)) }

-- what a hold comes to whose step failed so
abbrev pub failed_by : PlaceFault → Bytes → Outcome
failed_by (places.NoMemory left.Nothing) stream = shortly Nothing
failed_by (places.NoMemory left.Ticked) stream = shortly Ticked
failed_by (places.NoMemory (left.Unsaid refused)) stream = shortly (Unsaid refused)
failed_by places.StoreFault stream = quietly (Broke stream)
failed_by (places.Stopped count) stream = quietly (Stopped stream)
failed_by (places.Gone kept) stream = quietly Gone
failed_by (places.Worn refused) stream = worn_out (Unsaid refused)

-- what it comes to if no place keeps the incarnation that is asked for, by the count at which the place stopped, if it did
abbrev pub absent_by : Option ℕ → Bytes → Outcome
absent_by None stream = quietly Gone
absent_by (Some count) stream = quietly (Stopped stream)

module _ {R : Type 0} (routes : R → RouteCall → RouteTold → R → Type 0) (worn : R → ℕ → R → Type 0) where
  -- the outputs were sent, whatever became of them
  pub record SendsThem (outs : List Out) (old new : R) : Type 0 where
    pub sending : Sending
    pub sends : Sends routes worn old outs sending new

  -- the outputs were sent, and the first fault is told; or no turn of the router was left for them
  abbrev pub SendsFollowed : Following → Bool → Outcome → List Out → R → R → Type 0
  SendsFollowed (Heard ready fault) unsaid outcome outs old new =
      (sending : Sending) × Sends routes worn old outs sending new × (outcome.ready ≡ ready) × (outcome.fault ≡ option_or fault (fault_of sending unsaid))
  SendsFollowed (Unheard number) unsaid outcome outs old new = (outcome.ready ≡ false) × (outcome.fault ≡ Some (faults.Worn number)) × (new ≡ old)

  -- if the event was made in spite of the fault, or time passed, the outputs were sent
  abbrev pub SendsMade : PlaceFault → List Out → R → R → Type 0
  SendsMade (places.NoMemory left.Nothing) outs old new = new ≡ old
  SendsMade (places.NoMemory left.Ticked) outs old new = SendsThem outs old new
  SendsMade (places.NoMemory (left.Unsaid refused)) outs old new = SendsThem outs old new
  SendsMade places.StoreFault outs old new = new ≡ old
  SendsMade (places.Stopped count) outs old new = new ≡ old
  SendsMade (places.Gone kept) outs old new = new ≡ old
  SendsMade (places.Worn refused) outs old new = SendsThem outs old new

-- Runs of a place, by rules of this server's own: its events and deliveries, one after the other.
use Rattle.std.specs.Prelude.{◌≡◌, ℕ, ◌+◌, ◌<◌, ◌^◌, nat_lt, Bool, true, not, IsTrue, List, [], ◌∷◌, length, filter}
use Rattle.js_base.specs.Bytes.{Bytes, has}
use Rattle.js_base.specs.declared.out.Out.{Out}
use Rattle.js_model.specs.declared.stream.Message.{Message}
use Rattle.js_model.specs.declared.stream.State.{State}
use Rattle.js_model.specs.declared.stream.State.TheVariants.{Vacant, Live}
use Rattle.js_model.specs.declared.event.Event.{Event}
use Rattle.js_model.specs.declared.reply.Reply.{Reply}
use Rattle.js_model.specs.declared.entry.Delivery.{Delivery}
use Rattle.js_model.specs.declared.entry.PlaceEntry.{PlaceEntry}
use Rattle.js_model.specs.declared.entry.PlaceEntry.TheVariants.{Step, Deliver, Broken}
use Rattle.js_model.specs.declared.entry.Call.{Call}
use Rattle.js_model.specs.declared.entry.Call.TheVariants.{Step as StepOf, Deliver as DeliverOf}
use Rattle.js_model.specs.Streams.{seqs}
use Rattle.js_model.specs.Proper.{is_proper}
use Rattle.js_model.specs.Events.{IsEvent}
use Rattle.js_model.specs.Deliver.{IsDelivered}

-- ---- how many messages there were

abbrev pub messages_of : State → List Message
messages_of (Vacant i) = []
messages_of (Live s) = s.messages

-- the messages of a state that were not in the one before
abbrev pub new_messages : State → State → List Message
new_messages old new = filter (λ m. not (has (seqs (messages_of old)) m.seq)) (messages_of new)

-- few enough messages were there at first or were stored since that a file is free for one more
abbrev pub is_few : ℕ → Bool
is_few count = nat_lt count 65533

-- ---- one step

-- a proper event, for which there is room or not
pub record IsStep (count : ℕ) (old : State) (e : Event) (now : ℕ) (reply : Reply) (outs : List Out) (new : State) : Type 0 where
  pub event : IsEvent old e now reply outs new
  pub proper : IsTrue (is_proper e)
  pub moment : now < 2 ^ 62

pub record IsDeliverStep (old : State) (now : ℕ) (listening : List Bytes) (d : Delivery) (outs : List Out) (new : State) : Type 0 where
  pub delivered : IsDelivered old now listening d outs new
  pub moment : now < 2 ^ 62

-- the event or the delivery was made, and its answer and outputs went to nobody
abbrev pub IsBrokenBy : ℕ → State → Call → ℕ → State → Type 0
IsBrokenBy count old (StepOf e) now new = (reply : Reply) × (outs : List Out) × IsStep count old e now reply outs new
IsBrokenBy count old (DeliverOf listening d) now new = (outs : List Out) × IsDeliverStep old now listening d outs new

-- ---- runs

-- the entries lead from old to new; `count` messages were there at first or were stored since. Only the last entry may be broken
abbrev pub RunFrom : ℕ → State → List PlaceEntry → State → Type 0
RunFrom count old [] new = old ≡ new
RunFrom count old (Step seat e now reply outs unsaid ∷ entries) new =
    (mid : State) × IsStep count old e now reply outs mid × RunFrom (count + length (new_messages old mid)) mid entries new
RunFrom count old (Deliver seat now listening d outs ∷ entries) new =
    (mid : State) × IsDeliverStep old now listening d outs mid × RunFrom (count + length (new_messages old mid)) mid entries new
RunFrom count old (Broken seat now call ∷ []) new = IsBrokenBy count old call now new
RunFrom count old (Broken seat now call ∷ entry ∷ entries) new = ⊥

-- how many messages were there at first or were stored, after the run
abbrev pub total_of : (count : ℕ) (old : State) (entries : List PlaceEntry) (new : State) → RunFrom count old entries new → ℕ
total_of count old [] new run = count
total_of count old (Step seat e now reply outs unsaid ∷ entries) new run = total_of (count + length (new_messages old run.0)) run.0 entries new run.2
total_of count old (Deliver seat now listening d outs ∷ entries) new run = total_of (count + length (new_messages old run.0)) run.0 entries new run.2
total_of count old (Broken seat now call ∷ []) new run = count + length (new_messages old new)
total_of count old (Broken seat now call ∷ entry ∷ entries) new run = count

-- the entries lead from old to new
abbrev pub Run : State → List PlaceEntry → State → Type 0
Run old entries new = RunFrom (length (messages_of old)) old entries new

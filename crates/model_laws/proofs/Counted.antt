-- What is sent to a consumer is sent for the first time, or again.
use Rattle.std.proofs.Common.{◌≡◌, ℕ, ◌+◌, Bool, true, false, cond, List, [], ◌∷◌, ◌++◌, length, ◌≤◌, subst, arith}
use Rattle.std.proofs.lemmas.List.Elements.{All-nil, All-cons}
use Rattle.js_base.specs.Bytes.{Bytes, same}
use Rattle.js_base.specs.declared.out.Out.{Out}
use Rattle.js_model.specs.declared.stream.Stream.{Stream}
use Rattle.js_model.specs.declared.stream.State.{State}
use Rattle.js_model.specs.declared.stream.State.TheVariants.{Vacant, Live}
use Rattle.js_model.specs.declared.consumer.Consumer.{Consumer}
use Rattle.js_model.specs.declared.entry.Delivered.{Delivered}
use Rattle.js_model.specs.declared.entry.Delivered.TheVariants.{Sent, TooSmall, Emptied}
use Rattle.js_model.specs.declared.entry.Delivery.{Delivery}
use Rattle.js_model.specs.declared.entry.PlaceEntry.{PlaceEntry}
use Rattle.js_model.specs.declared.entry.PlaceEntry.TheVariants.{Step, Deliver, Broken}
use Rattle.js_model.specs.declared.entry.Call.TheVariants.{Step as StepOf, Deliver as DeliverOf}
use Rattle.js_model.specs.Advance.{advance}
use Rattle.js_model.specs.Deliver.{Delivers, IsDelivered, count_of}
use Rattle.js_model.specs.Runs.{RunFrom, new_messages}
use Rattle.model_laws.specs.OneConsumer.{drops}
use Rattle.model_laws.specs.Sendings.{Sending, sending_of, sending_to, sendings}
use Rattle.model_laws.specs.Order.{AreCounted}
use Rattle.model_laws.proofs.Consecutive.{append_nil}

abbrev IsCountedOne : Sending → Type 0
IsCountedOne x = 1 ≤ x.count

own_counted : (more : List Sending) (a : Stream) (listening : List Bytes) (c after : Consumer) (d : Delivered) (outs : List Out) → Delivers a listening c d outs after → AreCounted more → AreCounted (sending_of d ++ more)
own_counted more a listening c after (Sent seq count dseq) outs x h =
    All-cons IsCountedOne (record { seq = seq; count = count; dseq = dseq }) more (let q : count ≡ count_of c x.message.seq + 1 = x.count_is in omega arith) h
own_counted more a listening c after TooSmall outs x h = h
own_counted more a listening c after Emptied outs x h = h

delivered_counted : (name : Bytes) (more : List Sending) (old new : State) (now : ℕ) (listening : List Bytes) (v : Delivery) (outs : List Out) → IsDelivered old now listening v outs new → AreCounted more → AreCounted (sending_to name v ++ more)
delivered_counted name more (Vacant i) new now listening v outs x h = absurd x
delivered_counted name more (Live s) new now listening v outs x h = go (same v.consumer name)
  where
    go : (b : Bool) → AreCounted (cond b (sending_of v.what) [] ++ more)
    go true = own_counted more (advance s now) listening x.consumer x.after v.what x.own x.delivers h
    go false = h

pub counted : (name : Bytes) (count : ℕ) (old : State) (entries : List PlaceEntry) (new : State) → RunFrom count old entries new → AreCounted (sendings name entries)
counted name count old [] new r = All-nil IsCountedOne
counted name count old (Step seat e now reply outs unsaid ∷ entries) new (mid, x, rest) = go (drops name e.what) (counted name (count + length (new_messages old mid)) mid entries new rest)
  where
    go : (b : Bool) → AreCounted (sendings name entries) → AreCounted (cond b [] (sendings name entries))
    go true h = All-nil IsCountedOne
    go false h = h
counted name count old (Deliver seat now listening v outs ∷ entries) new (mid, x, rest) =
    delivered_counted name (sendings name entries) old mid now listening v outs x.delivered (counted name (count + length (new_messages old mid)) mid entries new rest)
counted name count old (Broken seat now (StepOf e) ∷ entries) new r = All-nil IsCountedOne
counted name count old (Broken seat now (DeliverOf listening v) ∷ []) new (outs, x) =
    subst AreCounted (append_nil (sending_to name v)) (delivered_counted name [] old new now listening v outs x.delivered (All-nil IsCountedOne))
counted name count old (Broken seat now (DeliverOf listening v) ∷ entry ∷ entries) new r = absurd r

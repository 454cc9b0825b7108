-- A run keeps it that the messages of a state can be written.
use Rattle.std.proofs.Common.{ℕ, ◌+◌, List, [], ◌∷◌, ◌++◌, length, subst}
use Rattle.std.specs.Prelude.{All, IsTrue, ⊤}
use Rattle.std.proofs.lemmas.Bool.{leb-true, and_parts}
use Rattle.std.proofs.lemmas.List.Elements.{All-nil, All-push}
use Rattle.js_base.specs.Bytes.{Bytes}
use Rattle.js_base.specs.declared.out.Out.{Out}
use Rattle.js_model.specs.declared.stream.Stream.{Stream}
use Rattle.js_model.specs.declared.stream.State.{State}
use Rattle.js_model.specs.declared.stream.State.TheVariants.{Vacant, Live}
use Rattle.js_model.specs.declared.event.Event.{Event}
use Rattle.js_model.specs.declared.event.Publish.{Publish}
use Rattle.js_model.specs.declared.reply.Reply.{Reply}
use Rattle.js_model.specs.declared.entry.Delivery.{Delivery}
use Rattle.js_model.specs.declared.entry.PlaceEntry.{PlaceEntry}
use Rattle.js_model.specs.declared.entry.PlaceEntry.TheVariants.{Step, Deliver, Broken}
use Rattle.js_model.specs.declared.entry.Call.TheVariants.{Step as StepOf, Deliver as DeliverOf}
use Rattle.js_model.specs.Proper.{is_proper_publish}
use Rattle.js_model.specs.Advance.{advance}
use Rattle.js_model.specs.Verdict.{message_of}
use Rattle.js_model.specs.Events.{with_message, with_id}
use Rattle.js_model.specs.Runs.{RunFrom, IsStep, IsDeliverStep, new_messages}
use Rattle.model_laws.specs.Bounds.{IsWritableMessage, IsWritable}
use Rattle.model_laws.specs.Laws.{LawWritable}
use Rattle.js_model.proofs.Parts.{young_part}
use Rattle.model_laws.proofs.Facts.{IsStreamFact, IfLive, at_event, at_delivery}
use Rattle.model_laws.proofs.Sounding.{IsProperWhat}
use Rattle.model_laws.proofs.Bounded.{All-part}

abbrev AreWritable : Stream → Type 0
AreWritable s = All IsWritableMessage s.messages

writable_stored : (s : Stream) (p : Publish) → IsTrue (is_proper_publish p) → AreWritable s → AreWritable (with_message s p)
writable_stored s p proper h = go p.wants.id
  where
    new : IsWritableMessage (message_of s p)
    new =
        let bytes = and_parts _ _ (and_parts _ _ (and_parts _ _ proper).0).0 in
        let block = and_parts _ _ bytes.0 in
        record { subject = block.0; headers = block.1; bytes = leb-true (length p.headers + length p.payload) 1048576 bytes.1 }

    messages : All IsWritableMessage (s.messages ++ message_of s p ∷ [])
    messages = All-push IsWritableMessage s.messages (message_of s p) h new

    go : (id : Bytes) → AreWritable (with_id (record s { messages = s.messages ++ message_of s p ∷ []; last = s.last + 1 }) id)
    go [] = messages
    go (byte ∷ more) = messages

writable_at_time : (s : Stream) (now : ℕ) → AreWritable s → AreWritable (advance s now)
unfolding advance
writable_at_time s now h = All-part IsWritableMessage (young_part s _) h

writable_fact : IsStreamFact IsProperWhat ⊤ AreWritable
writable_fact = record {
  change = record {
    gone = λ s reply g h. tt;
    only = λ s messages p h. All-part IsWritableMessage p h;
    configured = λ s reply config g h. h;
    stored = λ s p room g e h. writable_stored s p g h;
    made = λ s reply name config g e r h. h;
    removed = λ s reply name c g e h. h;
    acked = λ s reply ack c g e q h. h;
    pulled = λ s reply name ask c g e h. h;
  };
  empty = λ i now reply config g h. All-nil IsWritableMessage;
  time = writable_at_time;
}

writable_step : (count : ℕ) (old new : State) (e : Event) (now : ℕ) (reply : Reply) (outs : List Out) → IsStep count old e now reply outs new → IfLive ⊤ AreWritable old → IfLive ⊤ AreWritable new
writable_step count old new e now reply outs x h = at_event IsProperWhat ⊤ AreWritable writable_fact old new e now reply outs x.event (and_parts _ _ x.proper).1 h

writable_deliver : (old new : State) (now : ℕ) (listening : List Bytes) (d : Delivery) (outs : List Out) → IsDeliverStep old now listening d outs new → IfLive ⊤ AreWritable old → IfLive ⊤ AreWritable new
writable_deliver old new now listening d outs x h = at_delivery IsProperWhat ⊤ AreWritable writable_fact (λ s c k. k) old new now listening d outs x.delivered h

writable_run : (count : ℕ) (old new : State) (entries : List PlaceEntry) → IfLive ⊤ AreWritable old → RunFrom count old entries new → IfLive ⊤ AreWritable new
writable_run count old new [] h r = subst (IfLive ⊤ AreWritable) r h
writable_run count old new (Step seat e now reply outs unsaid ∷ entries) h (mid, x, rest) =
    writable_run (count + length (new_messages old mid)) mid new entries (writable_step count old mid e now reply outs x h) rest
writable_run count old new (Deliver seat now listening d outs ∷ entries) h (mid, x, rest) =
    writable_run (count + length (new_messages old mid)) mid new entries (writable_deliver old mid now listening d outs x h) rest
writable_run count old new (Broken seat now (StepOf e) ∷ []) h (reply, outs, x) = writable_step count old new e now reply outs x h
writable_run count old new (Broken seat now (DeliverOf listening d) ∷ []) h (outs, x) = writable_deliver old new now listening d outs x h
writable_run count old new (Broken seat now call ∷ entry ∷ entries) h r = absurd r

from_writable : (s : State) → IsWritable s → IfLive ⊤ AreWritable s
from_writable (Vacant i) h = tt
from_writable (Live s) h = h

to_writable : (s : State) → IfLive ⊤ AreWritable s → IsWritable s
to_writable (Vacant i) h = tt
to_writable (Live s) h = h

pub law_writable : LawWritable
law_writable count old new entries h r = to_writable new (writable_run count old new entries (from_writable old h) r)

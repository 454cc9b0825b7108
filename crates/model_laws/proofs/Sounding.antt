-- Soundness is kept.
use Rattle.std.proofs.Common.{ℕ, ◌+◌, List, [], ◌∷◌, length, sym, subst, arith}
use Rattle.std.specs.Prelude.{IsTrue, ⊤}
use Rattle.std.proofs.lemmas.Bool.{and_parts}
use Rattle.std.proofs.lemmas.List.Elements.{All-nil}
use Rattle.js_base.specs.Bytes.{Bytes}
use Rattle.js_base.specs.declared.out.Out.{Out}
use Rattle.js_model.specs.declared.stream_config.StreamConfig.{StreamConfig}
use Rattle.js_model.specs.declared.stream.Stream.{Stream}
use Rattle.js_model.specs.declared.stream.State.{State}
use Rattle.js_model.specs.declared.stream.State.TheVariants.{Vacant, Live}
use Rattle.js_model.specs.declared.event.Event.{Event}
use Rattle.js_model.specs.declared.event.What.{What}
use Rattle.js_model.specs.declared.reply.Reply.{Reply}
use Rattle.js_model.specs.declared.entry.Delivery.{Delivery}
use Rattle.js_model.specs.declared.entry.PlaceEntry.{PlaceEntry}
use Rattle.js_model.specs.declared.entry.PlaceEntry.TheVariants.{Step, Deliver, Broken}
use Rattle.js_model.specs.declared.entry.Call.TheVariants.{Step as StepOf, Deliver as DeliverOf}
use Rattle.js_model.specs.Streams.{with_consumer}
use Rattle.js_model.specs.Configs.{is_stream_config}
use Rattle.js_model.specs.Consumers.{empty_stream}
use Rattle.js_model.specs.Proper.{is_proper_what}
use Rattle.js_model.specs.Advance.{advance}
use Rattle.js_model.specs.Deliver.{IsDelivery, IsDelivered}
use Rattle.js_model.specs.Runs.{RunFrom, IsStep, new_messages}
use Rattle.model_laws.proofs.Whole.{join, split, IsSoundConsumer, IsSoundStream, IsSoundState}
use Rattle.model_laws.specs.Laws.{LawSound}
use Rattle.model_laws.proofs.Facts.{IsStreamFact, IfLive, at_event, at_kept}
use Rattle.model_laws.proofs.SoundParts.{sound_only}
use Rattle.model_laws.proofs.SoundTime.{sound_time}
use Rattle.model_laws.proofs.SoundStored.{sound_stored}
use Rattle.model_laws.proofs.SoundMade.{sound_made, sound_removed}
use Rattle.model_laws.proofs.SoundAcks.{All-by_name, sound_with, after_ack_sound, pulled_sound}
use Rattle.model_laws.proofs.SoundSent.{delivered_sound}

abbrev pub IsProperWhat : What → Type 0
IsProperWhat w = IsTrue (is_proper_what w)

configured : (s : Stream) (config : StreamConfig) → IsTrue (is_stream_config config) → IsSoundStream s → IsSoundStream (record s { config = config })
configured s config proper h = record { config = proper; messages = h.messages; consumers = h.consumers; ordered = h.ordered; ids = h.ids }

empty : (i now : ℕ) (config : StreamConfig) → IsTrue (is_stream_config config) → IsSoundStream (empty_stream i config now)
empty i now config proper = record { config = proper; messages = omega arith; consumers = All-nil (IsSoundConsumer [] 0); ordered = tt; ids = tt }

pub sound_fact : IsStreamFact IsProperWhat ⊤ IsSoundStream
sound_fact = record {
  change = record {
    gone = λ s reply g h. tt;
    only = sound_only;
    configured = λ s reply config g h. configured s config g h;
    stored = λ s p room g e h. sound_stored s p room e h;
    made = λ s reply name config g e r h. sound_made s name config (and_parts _ _ (and_parts _ _ g).0).1 (and_parts _ _ g).1 e h;
    removed = λ s reply name c g e h. sound_removed s c.name h;
    acked = λ s reply ack c g e q h. sound_with s _ (after_ack_sound s.messages s.last s.moment reply ack.seq ack.kind c (All-by_name (IsSoundConsumer s.messages s.last) s.consumers ack.consumer c e h.consumers)) h;
    pulled = λ s reply name ask c g e h. sound_with s _ (pulled_sound s.messages s.last s.moment reply ask c (All-by_name (IsSoundConsumer s.messages s.last) s.consumers name c e h.consumers)) h;
  };
  empty = λ i now reply config g h. empty (i + 1) now config g;
  time = sound_time;
}

live_from : (s : State) → IsSoundState s → IfLive ⊤ IsSoundStream s
live_from (Vacant i) h = h
live_from (Live s) h = h

from_live : (s : State) → IfLive ⊤ IsSoundStream s → IsSoundState s
from_live (Vacant i) h = h
from_live (Live s) h = h

pub sound_step : (count : ℕ) (old new : State) (e : Event) (now : ℕ) (reply : Reply) (outs : List Out) → IsStep count old e now reply outs new → IsSoundState old → IsSoundState new
sound_step count old new e now reply outs x h = from_live new (at_event IsProperWhat ⊤ IsSoundStream sound_fact old new e now reply outs x.event (and_parts _ _ x.proper).1 (live_from old h))

-- the consumer of a delivery is sound at its moment
pub sound_found : (s : Stream) (now : ℕ) (listening : List Bytes) (d : Delivery) (outs : List Out) (new : State) (x : IsDelivery s now listening d outs new)
    → IsSoundStream s → IsSoundConsumer (advance s now).messages (advance s now).last x.consumer
sound_found s now listening d outs new x h = All-by_name (IsSoundConsumer (advance s now).messages (advance s now).last) (advance s now).consumers d.consumer x.consumer x.found (sound_time s now h).consumers

pub sound_delivery : (old new : State) (now : ℕ) (listening : List Bytes) (d : Delivery) (outs : List Out) → IsDelivered old now listening d outs new → IsSoundState old → IsSoundState new
sound_delivery (Vacant i) new now listening d outs x h = absurd x
sound_delivery (Live s) new now listening d outs x h =
    let k = sound_time s now h in
    subst IsSoundState (sym x.new_is)
    (at_kept IsProperWhat ⊤ IsSoundStream sound_fact (with_consumer (advance s now) x.after)
    (sound_with (advance s now) x.after (delivered_sound (advance s now) listening x.consumer x.after d.what x.own k.messages x.delivers (sound_found s now listening d outs new x h)) k))

pub sound_run : (count : ℕ) (old new : State) (entries : List PlaceEntry) → IsSoundState old → RunFrom count old entries new → IsSoundState new
sound_run count old new [] h r = subst IsSoundState r h
sound_run count old new (Step seat e now reply outs unsaid ∷ entries) h (mid, x, rest) = sound_run (count + length (new_messages old mid)) mid new entries (sound_step count old mid e now reply outs x h) rest
sound_run count old new (Deliver seat now listening d outs ∷ entries) h (mid, x, rest) = sound_run (count + length (new_messages old mid)) mid new entries (sound_delivery old mid now listening d outs x.delivered h) rest
sound_run count old new (Broken seat now (StepOf e) ∷ []) h (reply, outs, x) = sound_step count old new e now reply outs x h
sound_run count old new (Broken seat now (DeliverOf listening d) ∷ []) h (outs, x) = sound_delivery old new now listening d outs x.delivered h
sound_run count old new (Broken seat now call ∷ entry ∷ entries) h r = absurd r

pub law_sound : LawSound
law_sound count old new entries h r = split new (sound_run count old new entries (join old h) r)

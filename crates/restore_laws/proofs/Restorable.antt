-- A stream can be restored to each state that a run reaches from such a state.
use Rattle.std.proofs.Common.{◌≡◌, ℕ, ◌+◌, List, [], ◌∷◌, map, length, max, refl, sym, ap, ◌∙◌, subst, arith}
use Rattle.std.specs.Prelude.{◌≤◌, filter, Option, Some, None, IfSome, count_by, sum_by}
use Rattle.js_base.specs.Bytes.{Bytes, same}
use Rattle.js_base.specs.declared.out.Out.{Out}
use Rattle.js_model.specs.declared.stream_config.StreamConfig.{StreamConfig}
use Rattle.js_model.specs.declared.stream.Message.{Message}
use Rattle.js_model.specs.declared.stream.Stream.{Stream}
use Rattle.js_model.specs.declared.stream.State.{State}
use Rattle.js_model.specs.declared.stream.State.TheVariants.{Vacant, Live}
use Rattle.js_model.specs.declared.consumer.Consumer.{Consumer}
use Rattle.js_model.specs.declared.event.Event.{Event}
use Rattle.js_model.specs.declared.reply.Answer.{Answer}
use Rattle.js_model.specs.declared.reply.Reply.{Reply}
use Rattle.js_model.specs.declared.entry.PlaceEntry.TheVariants.{Step, Deliver, Broken}
use Rattle.js_model.specs.declared.entry.Call.TheVariants.{Step as StepOf, Deliver as DeliverOf}
use Rattle.js_model.specs.Advance.{advance, young}
use Rattle.js_model.specs.Streams.{only, seqs, confined, size, with_consumer}
use Rattle.js_model.specs.Lasting.{lasting_consumer}
use Rattle.js_model.specs.Consumers.{empty_stream}
use Rattle.js_model.specs.Retention.{kept, is_kept}
use Rattle.js_model.specs.Events.{settled, settled_state, answered, stream_answer, vacant_answer}
use Rattle.js_model.specs.Runs.{IsStep, new_messages}
use Rattle.js_model.proofs.Parts.{filter_part, part_trans, young_part}
use Rattle.model_laws.proofs.Within.{AreWithin}
use Rattle.effects.specs.Restorable.{IsInTime, IsRestorable}
use Rattle.effects.proofs.Agreeing.{filter_agree, map_twice}
use Rattle.effects.proofs.Rising.{in_time, in_time_sent}
use Rattle.restore_laws.specs.Laws.{LawRestorable, LawRestorableEvent, LawRestorableDelivery, LawRestorableEmpty, LawRestorableLasting}
use Rattle.restore_laws.proofs.Settling.{within_part, kept_same, settled_from, settled_kept, settled_again, within_of, own_of, kept_of}

-- neither the limits nor the retention drop a message
abbrev IsSettled : State → Type 0
IsSettled s = settled_state s ≡ s

both : (s : State) → IsInTime s → IsSettled s → IsRestorable s
both (Vacant i) h e = tt
both (Live s) h e = record { in_time = h; settled_is = live_is e }
  where
    live_is : {t u : Stream} → Live t ≡ Live u → t ≡ u
    live_is q = cc

time_of : (s : State) → IsRestorable s → IsInTime s
time_of (Vacant i) h = tt
time_of (Live s) h = h.in_time

-- ---- events

state_again : (s : State) → IsSettled (settled_state s)
state_again (Vacant i) = refl
state_again (Live s) = ap Live (settled_again s)

event_settles : (count : ℕ) (old new : State) (e : Event) (now : ℕ) (reply : Reply) (outs : List Out) → IsStep count old e now reply outs new → IsSettled new
unfolding answered
event_settles count (Vacant i) new e now reply outs x = subst IsSettled (ap (λ (a : Answer). a.state) x.event.answers) (state_again (vacant_answer i e.what now x.event.room).state)
event_settles count (Live s) new e now reply outs x = subst IsSettled (ap (λ (a : Answer). a.state) x.event.answers) (state_again (stream_answer (advance s now) e.what x.event.room).state)

pub restorable_event : LawRestorableEvent
restorable_event count old new e now reply outs h x = both new (in_time count old new e now reply outs x (time_of old h)) (event_settles count old new e now reply outs x)

-- ---- deliveries

-- what a delivery keeps is a part of what was stored
within_later : (s : Stream) (now : ℕ) (after : Consumer) → AreWithin s s.messages → AreWithin (kept (with_consumer (advance s now) after)) (kept (with_consumer (advance s now) after)).messages
unfolding kept advance
within_later s now after h =
    let w = within_part s (part_trans (filter_part _ (young s (max s.moment now))) (young_part s (max s.moment now))) h in
    record { per_subject = w.per_subject; messages = w.messages; bytes = w.bytes }

pub restorable_delivery : LawRestorableDelivery
restorable_delivery (Vacant i) new now listening d outs h x = absurd x
restorable_delivery (Live s) new now listening d outs h x =
    both new (in_time_sent (Live s) new now listening d outs x h.in_time)
    (subst IsSettled (sym x.new_is) (ap Live (settled_kept (with_consumer (advance s now) x.after) (within_later s now x.after (within_of s h.settled_is)))))

-- ---- runs

pub restorable_run : LawRestorable
restorable_run count old new [] h r = subst IsRestorable r h
restorable_run count old new (Step seat e now reply outs unsaid ∷ entries) h (mid, x, rest) =
    restorable_run (count + length (new_messages old mid)) mid new entries (restorable_event count old mid e now reply outs h x) rest
restorable_run count old new (Deliver seat now listening d outs ∷ entries) h (mid, x, rest) =
    restorable_run (count + length (new_messages old mid)) mid new entries (restorable_delivery old mid now listening d outs h x.delivered) rest
restorable_run count old new (Broken seat now (StepOf e) ∷ []) h (reply, outs, x) = restorable_event count old new e now reply outs h x
restorable_run count old new (Broken seat now (DeliverOf listening d) ∷ []) h (outs, x) = restorable_delivery old new now listening d outs h x.delivered
restorable_run count old new (Broken seat now call ∷ entry ∷ entries) h r = absurd r

-- ---- an empty stream

no_few : (o : Option ℕ) → IfSome o (λ limit. (subject : Bytes) → count_by (λ (m : Message). same m.subject subject) [] ≤ limit)
no_few None = tt
no_few (Some n) = λ subject. omega arith

no_bytes : (o : Option ℕ) → IfSome o (λ limit. sum_by size [] ≤ limit)
no_bytes None = tt
no_bytes (Some n) = omega arith

kept_empty : (i now : ℕ) (config : StreamConfig) → kept (empty_stream i config now) ≡ empty_stream i config now
unfolding kept
kept_empty i now config = refl

pub restorable_empty : LawRestorableEmpty
restorable_empty i now config = record {
  in_time = record { messages = omega arith; ids = omega arith };
  settled_is =
      settled_from (empty_stream i config now) (record { per_subject = no_few config.max_msgs_per_subject; messages = omega arith; bytes = no_bytes config.max_bytes }) refl
      (kept_empty i now config);
}

-- ---- what outlives a crash

abbrev lasting_stream : Stream → Stream
lasting_stream s = record s { consumers = map lasting_consumer s.consumers }

only_lasting : (s : Stream) (messages : List Message) → only (lasting_stream s) messages ≡ lasting_stream (only s messages)
only_lasting s messages =
    ap (λ (cs : List Consumer). record (only s messages) { consumers = cs })
    (map_twice lasting_consumer (confined (seqs messages)) s.consumers ∙ sym (map_twice (confined (seqs messages)) lasting_consumer s.consumers))

kept_lasting : (s : Stream) → kept (lasting_stream s) ≡ lasting_stream (kept s)
unfolding kept
kept_lasting s =
    ap (only (lasting_stream s)) (filter_agree _ (is_kept s.config.retention s.consumers) s.messages (λ m i. kept_same lasting_consumer m (λ c. refl) (λ c. refl) s.config.retention s.consumers))
    ∙ only_lasting s (filter (is_kept s.config.retention s.consumers) s.messages)

settled_lasting : (s : Stream) → settled s ≡ s → settled (lasting_stream s) ≡ lasting_stream s
settled_lasting s h = settled_from (lasting_stream s) limits (only_lasting s s.messages ∙ ap lasting_stream (own_of s h)) (kept_lasting s ∙ ap lasting_stream (kept_of s h))
  where
    limits : AreWithin (lasting_stream s) s.messages
    limits = let w = within_of s h in record { per_subject = w.per_subject; messages = w.messages; bytes = w.bytes }

pub restorable_lasting : LawRestorableLasting
restorable_lasting (Vacant i) h = tt
restorable_lasting (Live s) h = record { in_time = record { messages = h.in_time.messages; ids = h.in_time.ids }; settled_is = settled_lasting s h.settled_is }

-- The limits and the retention of a stream have nothing left to drop of what a run leaves.
use Rattle.std.proofs.Common.{◌≡◌, ℕ, ◌+◌, List, [], ◌∷◌, map, length, max, refl, sym, ap, ◌∙◌, subst}
use Rattle.std.specs.Prelude.{filter}
use Rattle.js_model.specs.declared.stream.Message.{Message}
use Rattle.js_model.specs.declared.stream.Stream.{Stream}
use Rattle.js_model.specs.declared.stream.State.{State}
use Rattle.js_model.specs.declared.stream.State.TheVariants.{Vacant, Live}
use Rattle.js_model.specs.declared.consumer.Consumer.{Consumer}
use Rattle.js_model.specs.declared.event.Event.{Event}
use Rattle.js_model.specs.declared.reply.Answer.{Answer}
use Rattle.js_model.specs.declared.reply.Reply.{Reply}
use Rattle.js_base.specs.declared.out.Out.{Out}
use Rattle.js_model.specs.declared.entry.PlaceEntry.TheVariants.{Step, Deliver, Broken}
use Rattle.js_model.specs.declared.entry.Call.TheVariants.{Step as StepOf, Deliver as DeliverOf}
use Rattle.js_model.specs.Streams.{only, seqs, confined, with_consumer}
use Rattle.js_model.specs.Advance.{advance, young}
use Rattle.js_model.specs.Retention.{kept, is_kept}
use Rattle.js_model.specs.Events.{settled, settled_state, answered, stream_answer, vacant_answer, IsEvent}
use Rattle.js_model.specs.Lasting.{lasting_consumer}
use Rattle.js_model.specs.Runs.{new_messages}
use Rattle.js_model.proofs.Parts.{filter_part, part_trans, young_part}
use Rattle.model_laws.proofs.Within.{AreWithin}
use Rattle.effects.proofs.Agreeing.{filter_agree, map_twice}
use Rattle.restore_laws.proofs.Settling.{within_part, kept_same, settled_from, settled_kept, settled_again, within_of, own_of, kept_of}
use Rattle.timer_laws.specs.Settled.{IsSettled}
use Rattle.timer_laws.specs.Laws.{LawSettled, LawSettledVacant, LawSettledEvent, LawSettledDelivery, LawSettledLasting}

-- the stream of a state that is settled
stream_settled : (s : Stream) → IsSettled (Live s) → settled s ≡ s
stream_settled s h = live_is h
  where
    live_is : {t u : Stream} → Live t ≡ Live u → t ≡ u
    live_is e = cc

pub settled_vacant : LawSettledVacant
settled_vacant incarnation = refl

-- ---- events

settles : (s : State) → IsSettled (settled_state s)
settles (Vacant i) = refl
settles (Live s) = ap Live (settled_again s)

pub settled_event : LawSettledEvent
unfolding answered
settled_event (Vacant i) e now room = settles (vacant_answer i e.what now room).state
settled_event (Live s) e now room = settles (stream_answer (advance s now) e.what room).state

-- ---- deliveries

-- what a delivery keeps is a part of what was stored
within_delivered : (s : Stream) (now : ℕ) (after : Consumer) → AreWithin s s.messages → AreWithin (kept (with_consumer (advance s now) after)) (kept (with_consumer (advance s now) after)).messages
unfolding kept advance
within_delivered s now after h =
    let w = within_part s (part_trans (filter_part _ (young s (max s.moment now))) (young_part s (max s.moment now))) h in
    record { per_subject = w.per_subject; messages = w.messages; bytes = w.bytes }

pub settled_delivery : LawSettledDelivery
settled_delivery (Vacant i) now listening d outs new h x = absurd x
settled_delivery (Live s) now listening d outs new h x =
    subst IsSettled (sym x.new_is) (ap Live (settled_kept (with_consumer (advance s now) x.after) (within_delivered s now x.after (within_of s (stream_settled s h)))))

-- ---- what outlives a crash

abbrev lasting_stream : Stream → Stream
lasting_stream s = record s { consumers = map lasting_consumer s.consumers }

only_lasting : (s : Stream) (messages : List Message) → only (lasting_stream s) messages ≡ lasting_stream (only s messages)
only_lasting s messages =
    ap (λ (cs : List Consumer). record (only s messages) { consumers = cs })
    (map_twice lasting_consumer (confined (seqs messages)) s.consumers ∙ sym (map_twice (confined (seqs messages)) lasting_consumer s.consumers))

kept_lasting : (s : Stream) → kept (lasting_stream s) ≡ lasting_stream (kept s)
unfolding kept
kept_lasting s =
    ap (only (lasting_stream s)) (filter_agree _ (is_kept s.config.retention s.consumers) s.messages (λ m i. kept_same lasting_consumer m (λ c. refl) (λ c. refl) s.config.retention s.consumers))
    ∙ only_lasting s (filter (is_kept s.config.retention s.consumers) s.messages)

pub settled_lasting : LawSettledLasting
settled_lasting (Vacant i) h = refl
settled_lasting (Live s) h = ap Live (settled_from (lasting_stream s) limits (only_lasting s s.messages ∙ ap lasting_stream (own_of s stays)) (kept_lasting s ∙ ap lasting_stream (kept_of s stays)))
  where
    stays : settled s ≡ s
    stays = stream_settled s h

    limits : AreWithin (lasting_stream s) s.messages
    limits = let w = within_of s stays in record { per_subject = w.per_subject; messages = w.messages; bytes = w.bytes }

-- ---- runs

event_settles : (old new : State) (e : Event) (now : ℕ) (reply : Reply) (outs : List Out) → IsEvent old e now reply outs new → IsSettled new
event_settles old new e now reply outs x = subst IsSettled (ap (λ (a : Answer). a.state) x.answers) (settled_event old e now x.room)

pub settled_run : LawSettled
settled_run count old new [] h r = subst IsSettled r h
settled_run count old new (Step seat e now reply outs unsaid ∷ entries) h (mid, x, rest) =
    settled_run (count + length (new_messages old mid)) mid new entries (event_settles old mid e now reply outs x.event) rest
settled_run count old new (Deliver seat now listening d outs ∷ entries) h (mid, x, rest) =
    settled_run (count + length (new_messages old mid)) mid new entries (settled_delivery old now listening d outs mid h x.delivered) rest
settled_run count old new (Broken seat now (StepOf e) ∷ []) h (reply, outs, x) = event_settles old new e now reply outs x.event
settled_run count old new (Broken seat now (DeliverOf listening d) ∷ []) h (outs, x) = settled_delivery old now listening d outs new h x.delivered
settled_run count old new (Broken seat now call ∷ entry ∷ entries) h r = absurd r

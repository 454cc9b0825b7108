-- The records of an event and of a delivery, by a rule of this server's own: time's, its own, and those of what its limits and its retention drop.
use Rattle.std.specs.Prelude.{ℕ, ◌+◌, ◌^◌, Bool, true, false, not, ◌==◌, ◌&&◌, ◌||◌, if◌then◌else◌, List, [], ◌∷◌, ◌++◌, Option, Some, None}
use Rattle.std.specs.List.{list_any}
use Rattle.js_base.specs.Bytes.{Bytes, has}
use Rattle.js_base.specs.Moments.{plus}
use Rattle.js_base.specs.declared.out.ApiError.{ApiError}
use Rattle.js_model.specs.declared.stream_config.StreamConfig.{StreamConfig}
use Rattle.js_model.specs.declared.consumer_config.AckPolicy.{AckPolicy}
use Rattle.js_model.specs.declared.consumer_config.AckPolicy.TheVariants.{None as NoAck, All as AckAll, Explicit}
use Rattle.js_model.specs.declared.consumer_config.ConsumerConfig.{ConsumerConfig}
use Rattle.js_model.specs.declared.stream.Message.{Message}
use Rattle.js_model.specs.declared.stream.Stream.{Stream}
use Rattle.js_model.specs.declared.stream.State.{State}
use Rattle.js_model.specs.declared.stream.State.TheVariants.{Vacant, Live}
use Rattle.js_model.specs.declared.consumer.Consumer.{Consumer}
use Rattle.js_model.specs.declared.ack.AckKind.{AckKind}
use Rattle.js_model.specs.declared.ack.AckKind.TheVariants.{Ack as Acknowledge, Nak, Wpi, Next, Term}
use Rattle.js_model.specs.declared.event.Publish.{Publish}
use Rattle.js_model.specs.declared.event.What.{What}
use Rattle.js_model.specs.declared.event.What.TheVariants.{Make, Change, Drop as DropStream, Publish as PublishIt, Purge, Delete, MakeConsumer, DropConsumer, Ack as AckIt, Pull as PullIt, Tick, StreamInfo as AskStream, MessageGet, ConsumerInfo as AskConsumer, ConsumerNames, ConsumerList}
use Rattle.js_model.specs.declared.entry.Delivered.{Delivered}
use Rattle.js_model.specs.declared.entry.Delivered.TheVariants.{Sent, TooSmall, Emptied}
use Rattle.js_model.specs.declared.entry.Delivery.{Delivery}
use Rattle.js_model.specs.declared.reply.Verdict.{Verdict}
use Rattle.js_model.specs.declared.reply.Verdict.TheVariants.{Take, Duplicate as TakenBefore, Refused as RefusedBy}
use Rattle.js_model.specs.Streams.{by_name, seqs, pending_seqs}
use Rattle.js_model.specs.Refusals.{first_refusal}
use Rattle.js_model.specs.Configs.{same_stream_config, same_retention}
use Rattle.js_model.specs.Advance.{advance}
use Rattle.js_model.specs.Verdict.{verdict}
use Rattle.js_model.specs.Acknowledge.{is_no_delivery, ends}
use Rattle.js_model.specs.Start.{picks_at, cursor_at}
use Rattle.js_model.specs.Consumers.{making_checks}
use Rattle.js_model.specs.Retention.{kept}
use Rattle.js_model.specs.Trim.{trim, trim_subjects, trim_count}
use Rattle.js_model.specs.Events.{or_no_room, settled, with_message, purge_list, without_messages, message_at, stream_answer}
use Rattle.js_model.specs.Runs.{messages_of}
use Rattle.effects.specs.TimeEffects.{removals, time_effects}
use Rattle.effects.specs.declared.effect.Effect.{Effect}
use Rattle.effects.specs.declared.effect.Effect.TheVariants.{MakeStream, ChangeStream, DropStream as StreamDropped, PutHere, Skip, MakeConsumer as ConsumerMade, DropConsumer as ConsumerDropped, Deliver, Acked, Due}

-- ---- streams and messages

-- another configuration, if it may be taken, differs and there is room for it
abbrev pub change_effects : Stream → StreamConfig → Bool → List Effect
change_effects s config true =
    if same_retention config.retention s.config.retention && not (same_stream_config config s.config) then ChangeStream config ∷ [] else []
change_effects s config false = []

-- limits or retention drop the new message at once
abbrev pub is_skipped : Stream → Publish → Bool
is_skipped s p = not (has (seqs (settled (with_message s p)).messages) (s.last + 1))

abbrev pub put_effect : Stream → Publish → Effect
put_effect s p =
    if is_skipped s p then Skip (s.last + 1) s.moment p.wants.id else PutHere (s.last + 1) s.moment p.wants.id p.subject p.headers p.payload

abbrev pub publish_effects : Stream → Publish → Verdict → List Effect
publish_effects s p Take = put_effect s p ∷ []
publish_effects s p (TakenBefore n) = []
publish_effects s p (RefusedBy e) = []

abbrev pub purge_effects : Stream → List Message → List Effect
purge_effects s gone = removals [] s.messages (without_messages s gone).messages

abbrev pub delete_effects : Stream → Option Message → List Effect
delete_effects s None = []
delete_effects s (Some m) = purge_effects s (m ∷ [])

-- ---- consumers

abbrev pub made_effects : Stream → Bytes → ConsumerConfig → Option ApiError → List Effect
made_effects s name config None =
    ConsumerMade name s.moment config (cursor_at config.deliver_policy config.filter_subject s) (picks_at config.deliver_policy config.filter_subject s) ∷ []
made_effects s name config (Some e) = []

abbrev pub make_effects : Stream → Bytes → ConsumerConfig → Bool → Bool → Option Consumer → List Effect
make_effects s name config true room None = []
make_effects s name config false room None = made_effects s name config (or_no_room room (first_refusal (making_checks s name config)))
make_effects s name config update room (Some c) = []

abbrev pub drop_effects : Option Consumer → List Effect
drop_effects None = []
drop_effects (Some c) = ConsumerDropped c.name ∷ []

-- ---- acknowledgements

-- the least sequence that an acknowledgement of n ends
abbrev pub first_ended : AckPolicy → ℕ → ℕ
first_ended NoAck n = n
first_ended AckAll n = 1
first_ended Explicit n = n

-- a delivery that waits or was given up ends
abbrev pub ends_some : (ℕ → Bool) → Consumer → Bool
ends_some ended c = list_any ended (pending_seqs c) || list_any ended c.given_up

abbrev pub ended_effects : (ℕ → Bool) → ℕ → ℕ → Consumer → List Effect
ended_effects ended low high c = if ends_some ended c then Acked c.name low high ∷ [] else []

-- the entry is there, and due at another moment
abbrev pub changes_due : ℕ → ℕ → Consumer → Bool
changes_due n due c = list_any (λ p. (p.seq == n) && not (p.due == due)) c.pending

abbrev pub due_effects : ℕ → ℕ → Consumer → List Effect
due_effects n due c = if changes_due n due c then Due c.name n due ∷ [] else []

abbrev pub acknowledged_effects : ℕ → ℕ → AckKind → Consumer → List Effect
acknowledged_effects now n Acknowledge c = ended_effects (ends c.config.ack_policy n) (first_ended c.config.ack_policy n) n c
acknowledged_effects now n (Nak delay) c = due_effects n (plus now delay) c
acknowledged_effects now n Wpi c = due_effects n (plus now c.config.ack_wait) c
acknowledged_effects now n (Next ask) c = ended_effects (ends c.config.ack_policy n) (first_ended c.config.ack_policy n) n c
acknowledged_effects now n Term c = ended_effects (λ m. m == n) n n c

abbrev pub ack_effects : Stream → ℕ → AckKind → Option Consumer → List Effect
ack_effects s n kind None = []
ack_effects s n kind (Some c) = if is_no_delivery c n then [] else acknowledged_effects s.moment n kind c

-- ---- events

-- what an event does to a stream at its moment
abbrev pub own_effects : Stream → What → Bool → List Effect
own_effects s (Make reply config) room = []
own_effects s (Change reply config) room = change_effects s config room
own_effects s (DropStream reply) room = StreamDropped ∷ []
own_effects s (PublishIt p) room = publish_effects s p (verdict s p room)
own_effects s (Purge reply pattern below keep) room = purge_effects s (purge_list s pattern below keep)
own_effects s (Delete reply n) room = delete_effects s (message_at s n)
own_effects s (MakeConsumer reply name config update) room = make_effects s name config update room (by_name s.consumers name)
own_effects s (DropConsumer reply name) room = drop_effects (by_name s.consumers name)
own_effects s (AckIt reply ack) room = ack_effects s ack.seq ack.kind (by_name s.consumers ack.consumer)
own_effects s (PullIt reply name ask) room = []
own_effects s Tick room = []
own_effects s (AskStream reply) room = []
own_effects s (MessageGet reply by) room = []
own_effects s (AskConsumer reply name) room = []
own_effects s (ConsumerNames reply offset) room = []
own_effects s (ConsumerList reply offset) room = []

-- the sequence that a publish was given, if the volume never holds its message
abbrev pub published_skipped : Stream → Publish → Verdict → List ℕ
published_skipped s p Take = if is_skipped s p then (s.last + 1) ∷ [] else []
published_skipped s p (TakenBefore n) = []
published_skipped s p (RefusedBy e) = []

abbrev pub skipped : Stream → What → Bool → List ℕ
skipped s (PublishIt p) room = published_skipped s p (verdict s p room)
skipped s (Make reply config) room = []
skipped s (Change reply config) room = []
skipped s (DropStream reply) room = []
skipped s (Purge reply pattern below keep) room = []
skipped s (Delete reply n) room = []
skipped s (MakeConsumer reply name config update) room = []
skipped s (DropConsumer reply name) room = []
skipped s (AckIt reply ack) room = []
skipped s (PullIt reply name ask) room = []
skipped s Tick room = []
skipped s (AskStream reply) room = []
skipped s (MessageGet reply by) room = []
skipped s (AskConsumer reply name) room = []
skipped s (ConsumerNames reply offset) room = []
skipped s (ConsumerList reply offset) room = []

-- what each limit drops, and then the retention
abbrev pub settle_effects : List ℕ → State → List Effect
settle_effects missing (Vacant i) = []
settle_effects missing (Live s) =
    removals missing s.messages (trim_subjects s).messages
    ++ (removals missing (trim_subjects s).messages (trim_count (trim_subjects s)).messages
    ++ (removals missing (trim_count (trim_subjects s)).messages (trim s).messages
    ++ removals missing (trim s).messages (kept (trim s)).messages))

abbrev pub live_effects : Stream → What → Bool → List Effect
live_effects s what room = own_effects s what room ++ settle_effects (skipped s what room) (stream_answer s what room).state

-- a stream is made, if there is room for it
abbrev pub stream_effects : ℕ → StreamConfig → ℕ → Bool → List Effect
stream_effects i config now true = MakeStream (i + 1) now config ∷ []
stream_effects i config now false = []

-- only a stream can be made where there is none
abbrev pub vacant_effects : ℕ → What → ℕ → Bool → List Effect
vacant_effects i (Make reply config) now room = if i + 1 == 2 ^ 62 then [] else stream_effects i config now room
vacant_effects i (Change reply config) now room = []
vacant_effects i (DropStream reply) now room = []
vacant_effects i (PublishIt p) now room = []
vacant_effects i (Purge reply pattern below keep) now room = []
vacant_effects i (Delete reply n) now room = []
vacant_effects i (MakeConsumer reply name config update) now room = []
vacant_effects i (DropConsumer reply name) now room = []
vacant_effects i (AckIt reply ack) now room = []
vacant_effects i (PullIt reply name ask) now room = []
vacant_effects i Tick now room = []
vacant_effects i (AskStream reply) now room = []
vacant_effects i (MessageGet reply by) now room = []
vacant_effects i (AskConsumer reply name) now room = []
vacant_effects i (ConsumerNames reply offset) now room = []
vacant_effects i (ConsumerList reply offset) now room = []

-- the records of an event at a moment; `room` is whether there is room for it
abbrev pub event_effects : State → What → ℕ → Bool → List Effect
event_effects (Vacant i) what now room = vacant_effects i what now room
event_effects (Live s) what now room = time_effects s now ++ live_effects (advance s now) what room

-- ---- deliveries

-- a message that is sent; a pull that ends leaves nothing
abbrev pub sent_effects : Stream → Delivered → Option Consumer → List Effect
sent_effects s d None = []
sent_effects s (Sent seq count dseq) (Some c) = Deliver c.name seq count (plus s.moment c.config.ack_wait) dseq ∷ []
sent_effects s TooSmall (Some c) = []
sent_effects s Emptied (Some c) = []

-- the records of a delivery that leaves this state
abbrev pub delivery_effects : State → ℕ → Delivery → State → List Effect
delivery_effects (Vacant i) now d new = []
delivery_effects (Live s) now d new =
    time_effects s now
    ++ (sent_effects (advance s now) d.what (by_name (advance s now).consumers d.consumer)
    ++ removals [] (advance s now).messages (messages_of new))

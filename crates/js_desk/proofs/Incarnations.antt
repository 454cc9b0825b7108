-- An event keeps the incarnation of its place, unless it drops the stream; and so does a delivery.
use Rattle.std.proofs.Common.{◌≡◌, ◌+◌, ◌^◌, ℕ, Bool, true, false, List, [], ◌∷◌, Option, Some, None, refl, ap, ◌∙◌, if◌then◌else◌}
use Rattle.std.specs.Prelude.{◌==◌, unwrap_or}
use Rattle.js_base.specs.Bytes.{Bytes}
use Rattle.js_model.specs.declared.stream.State.{State}
use Rattle.js_model.specs.declared.stream.State.TheVariants.{Vacant, Live}
use Rattle.js_model.specs.declared.stream.Stream.{Stream}
use Rattle.js_model.specs.declared.stream.Message.{Message}
use Rattle.js_model.specs.declared.consumer.Consumer.{Consumer}
use Rattle.js_model.specs.declared.stream_config.StreamConfig.{StreamConfig}
use Rattle.js_model.specs.declared.consumer_config.ConsumerConfig.{ConsumerConfig}
use Rattle.js_model.specs.declared.ack.Ask.{Ask}
use Rattle.js_model.specs.declared.ack.AckKind.{AckKind}
use Rattle.js_model.specs.declared.event.Event.{Event}
use Rattle.js_model.specs.declared.event.Publish.{Publish}
use Rattle.js_model.specs.declared.event.What.{What}
use Rattle.js_model.specs.declared.event.What.TheVariants as whats
use Rattle.js_model.specs.declared.entry.Delivery.{Delivery}
use Rattle.js_model.specs.declared.reply.Answer.{Answer}
use Rattle.js_model.specs.declared.reply.Reply.TheVariants.{Done, Refused, Silent}
use Rattle.js_model.specs.declared.reply.Verdict.{Verdict}
use Rattle.js_model.specs.declared.reply.Verdict.TheVariants.{Take, Duplicate as TakenBefore, Refused as RefusedBy}
use Rattle.js_base.specs.declared.out.Out.{Out}
use Rattle.js_base.specs.declared.out.ApiError.{ApiError}
use Rattle.js_model.specs.Advance.{advance}
use Rattle.js_model.specs.Configs.{same_consumer_config, same_stream_config, same_retention}
use Rattle.js_model.specs.Deliver.{IsDelivered}
use Rattle.js_model.specs.Events.{ack_answer, ack_done, answered, consumer_asked, consumer_dropped, consumer_made, consumer_told, deleted, is_refused, kept_incarnation, message_at, message_by, message_told, or_no_room, published, pull_answer, quietly, settled, settled_state, stream_answer, stream_made, stream_told, told_of, refused, vacant_answer, vacantly, with_config, with_id}
use Rattle.js_model.specs.Acknowledge.{is_no_delivery}
use Rattle.js_model.specs.Consumers.{making_checks, new_consumer, queue_checks, with_new}
use Rattle.js_model.specs.Refusals.{consumer_exists, first_refusal, no_room, other_config, retention_cannot_change, numbers_used_up}
use Rattle.js_model.specs.Retention.{kept}
use Rattle.js_model.specs.Streams.{by_name}
use Rattle.js_model.specs.Trim.{trim}
use Rattle.js_model.specs.Verdict.{verdict}
use Rattle.desk_places.specs.Dropping.{is_drop}

-- ---- one event

settled_keeps : (state : State) → kept_incarnation (settled_state state) ≡ kept_incarnation state
unfolding kept trim
settled_keeps (Vacant i) = refl
settled_keeps (Live s) = refl

advance_keeps : (s : Stream) (now : ℕ) → (advance s now).incarnation ≡ s.incarnation
unfolding advance
advance_keeps s now = refl

either_keeps : (b : Bool) (i : ℕ) (x y : Answer) → kept_incarnation x.state ≡ i → kept_incarnation y.state ≡ i → kept_incarnation (if b then x else y).state ≡ i
either_keeps true i x y h k = h
either_keeps false i x y h k = k

with_id_keeps : (s : Stream) (id : Bytes) → (with_id s id).incarnation ≡ s.incarnation
with_id_keeps s [] = refl
with_id_keeps s (byte ∷ more) = refl

published_keeps : (s : Stream) (p : Publish) (v : Verdict) → kept_incarnation (published s p v).state ≡ s.incarnation
published_keeps s p Take = with_id_keeps _ p.wants.id
published_keeps s p (TakenBefore n) = refl
published_keeps s p (RefusedBy e) = refl

deleted_keeps : (s : Stream) (found : Option Message) → kept_incarnation (deleted s found).state ≡ s.incarnation
deleted_keeps s None = refl
deleted_keeps s (Some m) = refl

told_keeps : (s : Stream) (found : Option Message) → kept_incarnation (message_told s found).state ≡ s.incarnation
told_keeps s None = refl
told_keeps s (Some m) = refl

-- ---- of its consumers

consumer_told_keeps : (s : Stream) (found : Option Consumer) → kept_incarnation (told_of s found).state ≡ s.incarnation
consumer_told_keeps s None = refl
consumer_told_keeps s (Some c) = refl

made_keeps : (s : Stream) (name : Bytes) (config : ConsumerConfig) (refusal : Option ApiError) → kept_incarnation (consumer_made s name config refusal).state ≡ s.incarnation
made_keeps s name config None =
    let made = record s { consumers = with_new s.consumers (new_consumer s name config) } in consumer_told_keeps made (by_name (settled made).consumers name)
made_keeps s name config (Some e) = refl

asked_keeps : (s : Stream) (name : Bytes) (config : ConsumerConfig) (update room : Bool) (found : Option Consumer)
    → kept_incarnation (consumer_asked s name config update room found).state ≡ s.incarnation
asked_keeps s name config true room None = refl
asked_keeps s name config false room None = made_keeps s name config (or_no_room room (first_refusal (making_checks s name config)))
asked_keeps s name config update room (Some c) =
    either_keeps (same_consumer_config config c.config) s.incarnation (consumer_told s name) (refused (unwrap_or (first_refusal (queue_checks s name config)) consumer_exists) s)
    (consumer_told_keeps s (by_name (settled s).consumers name)) refl

dropped_keeps : (s : Stream) (found : Option Consumer) → kept_incarnation (consumer_dropped s found).state ≡ s.incarnation
dropped_keeps s None = refl
dropped_keeps s (Some c) = refl

pull_keeps : (s : Stream) (reply : Option Bytes) (ask : Option Ask) (found : Option Consumer) → kept_incarnation (pull_answer s reply ask found).state ≡ s.incarnation
pull_keeps s reply ask None = refl
pull_keeps s reply ask (Some c) = refl

ack_keeps : (s : Stream) (reply : Option Bytes) (n : ℕ) (kind : AckKind) (found : Option Consumer) → kept_incarnation (ack_answer s reply n kind found).state ≡ s.incarnation
ack_keeps s reply n kind None = refl
ack_keeps s reply n kind (Some c) = either_keeps (is_no_delivery c n) s.incarnation (quietly Silent s) (ack_done s reply n kind c) refl refl

config_keeps : (s : Stream) (config : StreamConfig) (room : Bool) → kept_incarnation (with_config s config room).state ≡ s.incarnation
config_keeps s config true = refl
config_keeps s config false = either_keeps (same_stream_config config s.config) s.incarnation (stream_told s) (refused no_room s) refl refl

-- ---- any event

stream_keeps : (s : Stream) (what : What) (room : Bool) → is_drop what ≡ false → kept_incarnation (stream_answer s what room).state ≡ s.incarnation
stream_keeps s (whats.Make reply config) room d = either_keeps (same_stream_config config s.config) s.incarnation (stream_told s) (refused other_config s) refl refl
stream_keeps s (whats.Change reply config) room d =
    either_keeps (same_retention config.retention s.config.retention) s.incarnation (with_config s config room) (refused retention_cannot_change s) (config_keeps s config room) refl
stream_keeps s (whats.Drop reply) room d = absurd (cc)
stream_keeps s (whats.Publish p) room d = published_keeps s p (verdict s p room)
stream_keeps s (whats.Purge reply filter below keep) room d = refl
stream_keeps s (whats.Delete reply seq) room d = deleted_keeps s (message_at s seq)
stream_keeps s (whats.MakeConsumer reply name config update) room d = asked_keeps s name config update room (by_name s.consumers name)
stream_keeps s (whats.DropConsumer reply name) room d = dropped_keeps s (by_name s.consumers name)
stream_keeps s (whats.Ack reply ack) room d = ack_keeps s reply ack.seq ack.kind (by_name s.consumers ack.consumer)
stream_keeps s (whats.Pull reply consumer ask) room d = pull_keeps s reply ask (by_name s.consumers consumer)
stream_keeps s whats.Tick room d = refl
stream_keeps s (whats.StreamInfo reply) room d = refl
stream_keeps s (whats.MessageGet reply by) room d = told_keeps s (message_by s by)
stream_keeps s (whats.ConsumerInfo reply name) room d = consumer_told_keeps s (by_name (settled s).consumers name)
stream_keeps s (whats.ConsumerNames reply offset) room d = refl
stream_keeps s (whats.ConsumerList reply offset) room d = refl

stream_made_keeps : (i : ℕ) (config : StreamConfig) (now : ℕ) (room : Bool) → kept_incarnation (stream_made i config now room).state ≡ i + 1
stream_made_keeps i config now true = refl
stream_made_keeps i config now false = refl

vacant_keeps : (i : ℕ) (what : What) (now : ℕ) (room : Bool) → kept_incarnation (vacant_answer i what now room).state ≡ i + 1
vacant_keeps i (whats.Make reply config) now room =
    either_keeps (i + 1 == 2 ^ 62) (i + 1) (vacantly (Refused numbers_used_up) i) (stream_made i config now room) refl (stream_made_keeps i config now room)
vacant_keeps i (whats.Change reply config) now room = refl
vacant_keeps i (whats.Drop reply) now room = refl
vacant_keeps i (whats.Publish p) now room = refl
vacant_keeps i (whats.Purge reply filter below keep) now room = refl
vacant_keeps i (whats.Delete reply seq) now room = refl
vacant_keeps i (whats.MakeConsumer reply name config update) now room = refl
vacant_keeps i (whats.DropConsumer reply name) now room = refl
vacant_keeps i (whats.Ack reply ack) now room = refl
vacant_keeps i (whats.Pull reply consumer ask) now room = refl
vacant_keeps i whats.Tick now room = refl
vacant_keeps i (whats.StreamInfo reply) now room = refl
vacant_keeps i (whats.MessageGet reply by) now room = refl
vacant_keeps i (whats.ConsumerInfo reply name) now room = refl
vacant_keeps i (whats.ConsumerNames reply offset) now room = refl
vacant_keeps i (whats.ConsumerList reply offset) now room = refl

pub event_keeps : (old : State) (e : Event) (now : ℕ) (room : Bool) → is_drop e.what ≡ false → kept_incarnation (answered old e now room).state ≡ kept_incarnation old
unfolding answered
event_keeps (Vacant i) e now room d = settled_keeps (vacant_answer i e.what now room).state ∙ vacant_keeps i e.what now room
event_keeps (Live s) e now room d =
    settled_keeps (stream_answer (advance s now) e.what room).state ∙ stream_keeps (advance s now) e.what room d ∙ advance_keeps s now

-- a stream that was dropped leaves the next one
pub drop_counts : (old : State) (e : Event) (now : ℕ) (room : Bool) → is_drop e.what ≡ true → (answered old e now room).reply ≡ Done → kept_incarnation (answered old e now room).state ≡ kept_incarnation old + 1
unfolding answered
drop_counts old e now room d done = by old e.what d done
  where
    by : (state : State) (what : What) → is_drop what ≡ true → (answered state (record { incarnation = e.incarnation; what = what }) now room).reply ≡ Done
        → kept_incarnation (answered state (record { incarnation = e.incarnation; what = what }) now room).state ≡ kept_incarnation state + 1
    by (Vacant i) (whats.Drop reply) is f = absurd (cc)
    by (Live s) (whats.Drop reply) is f = ap (λ (n : ℕ). n + 1) (advance_keeps s now)
    by state (whats.Make reply config) is f = absurd (cc)
    by state (whats.Change reply config) is f = absurd (cc)
    by state (whats.Publish p) is f = absurd (cc)
    by state (whats.Purge reply filter below keep) is f = absurd (cc)
    by state (whats.Delete reply seq) is f = absurd (cc)
    by state (whats.MakeConsumer reply name config update) is f = absurd (cc)
    by state (whats.DropConsumer reply name) is f = absurd (cc)
    by state (whats.Ack reply ack) is f = absurd (cc)
    by state (whats.Pull reply consumer ask) is f = absurd (cc)
    by state whats.Tick is f = absurd (cc)
    by state (whats.StreamInfo reply) is f = absurd (cc)
    by state (whats.MessageGet reply get) is f = absurd (cc)
    by state (whats.ConsumerInfo reply name) is f = absurd (cc)
    by state (whats.ConsumerNames reply offset) is f = absurd (cc)
    by state (whats.ConsumerList reply offset) is f = absurd (cc)

-- a drop is done or refused
pub drop_done : (old : State) (e : Event) (now : ℕ) (room : Bool) → is_drop e.what ≡ true → is_refused (answered old e now room).reply ≡ false → (answered old e now room).reply ≡ Done
unfolding answered
drop_done old e now room d fine = by old e.what d fine
  where
    by : (state : State) (what : What) → is_drop what ≡ true → is_refused (answered state (record { incarnation = e.incarnation; what = what }) now room).reply ≡ false
        → (answered state (record { incarnation = e.incarnation; what = what }) now room).reply ≡ Done
    by (Vacant i) (whats.Drop reply) is f = absurd (cc)
    by (Live s) (whats.Drop reply) is f = refl
    by state (whats.Make reply config) is f = absurd (cc)
    by state (whats.Change reply config) is f = absurd (cc)
    by state (whats.Publish p) is f = absurd (cc)
    by state (whats.Purge reply filter below keep) is f = absurd (cc)
    by state (whats.Delete reply seq) is f = absurd (cc)
    by state (whats.MakeConsumer reply name config update) is f = absurd (cc)
    by state (whats.DropConsumer reply name) is f = absurd (cc)
    by state (whats.Ack reply ack) is f = absurd (cc)
    by state (whats.Pull reply consumer ask) is f = absurd (cc)
    by state whats.Tick is f = absurd (cc)
    by state (whats.StreamInfo reply) is f = absurd (cc)
    by state (whats.MessageGet reply get) is f = absurd (cc)
    by state (whats.ConsumerInfo reply name) is f = absurd (cc)
    by state (whats.ConsumerNames reply offset) is f = absurd (cc)
    by state (whats.ConsumerList reply offset) is f = absurd (cc)

-- a drop that is answered otherwise drops nothing
pub undropped_keeps : (old : State) (e : Event) (now : ℕ) (room : Bool) → is_drop e.what ≡ true → ((answered old e now room).reply ≡ Done → ⊥) → kept_incarnation (answered old e now room).state ≡ kept_incarnation old
unfolding answered
undropped_keeps old e now room d other = by old e.what d other
  where
    by : (state : State) (what : What) → is_drop what ≡ true → ((answered state (record { incarnation = e.incarnation; what = what }) now room).reply ≡ Done → ⊥)
        → kept_incarnation (answered state (record { incarnation = e.incarnation; what = what }) now room).state ≡ kept_incarnation state
    by (Vacant i) what is f = settled_keeps (vacant_answer i what now room).state ∙ vacant_keeps i what now room
    by (Live s) (whats.Drop reply) is f = absurd (f refl)
    by (Live s) (whats.Make reply config) is f = absurd (cc)
    by (Live s) (whats.Change reply config) is f = absurd (cc)
    by (Live s) (whats.Publish p) is f = absurd (cc)
    by (Live s) (whats.Purge reply filter below keep) is f = absurd (cc)
    by (Live s) (whats.Delete reply seq) is f = absurd (cc)
    by (Live s) (whats.MakeConsumer reply name config update) is f = absurd (cc)
    by (Live s) (whats.DropConsumer reply name) is f = absurd (cc)
    by (Live s) (whats.Ack reply ack) is f = absurd (cc)
    by (Live s) (whats.Pull reply consumer ask) is f = absurd (cc)
    by (Live s) whats.Tick is f = absurd (cc)
    by (Live s) (whats.StreamInfo reply) is f = absurd (cc)
    by (Live s) (whats.MessageGet reply get) is f = absurd (cc)
    by (Live s) (whats.ConsumerInfo reply name) is f = absurd (cc)
    by (Live s) (whats.ConsumerNames reply offset) is f = absurd (cc)
    by (Live s) (whats.ConsumerList reply offset) is f = absurd (cc)

-- ---- one delivery

pub delivery_keeps : (old : State) (now : ℕ) (listening : List Bytes) (d : Delivery) (outs : List Out) (new : State) → IsDelivered old now listening d outs new → kept_incarnation new ≡ kept_incarnation old
unfolding kept
delivery_keeps (Vacant i) now listening d outs new h = absurd h
delivery_keeps (Live s) now listening d outs new h = ap kept_incarnation h.new_is ∙ advance_keeps s now

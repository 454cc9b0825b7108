-- What an event does to a place, what it answers and what it sends, by the JetStream API.
use Rattle.std.specs.Prelude.{◌≡◌, ℕ, ◌+◌, ◌-◌, ◌^◌, nat_lt, Bool, true, false, ◌&&◌, not, ◌==◌, List, [], ◌∷◌, ◌++◌, length, map, filter, take, drop, if◌then◌else◌, Option, Some, None, unwrap_or, codes, find}
use Rattle.std.specs.List.{flat_map}
use Rattle.js_base.specs.Bytes.{Bytes, same, has}
use Rattle.js_base.specs.Status.{status}
use Rattle.js_base.specs.declared.out.Out.{Out}
use Rattle.js_base.specs.declared.out.ApiError.{ApiError}
use Rattle.js_model.specs.declared.stream_config.StreamConfig.{StreamConfig}
use Rattle.js_model.specs.declared.consumer_config.ConsumerConfig.{ConsumerConfig}
use Rattle.js_model.specs.declared.stream.Message.{Message}
use Rattle.js_model.specs.declared.stream.Stream.{Stream}
use Rattle.js_model.specs.declared.stream.State.{State}
use Rattle.js_model.specs.declared.stream.State.TheVariants.{Vacant, Live}
use Rattle.js_model.specs.declared.consumer.Consumer.{Consumer}
use Rattle.js_model.specs.declared.ack.Ask.{Ask}
use Rattle.js_model.specs.declared.ack.AckKind.{AckKind}
use Rattle.js_model.specs.declared.ack.AckKind.TheVariants.{Ack as Acknowledge, Nak, Wpi, Next, Term}
use Rattle.js_model.specs.declared.event.Publish.{Publish}
use Rattle.js_model.specs.declared.event.GetBy.{GetBy}
use Rattle.js_model.specs.declared.event.GetBy.TheVariants.{Seq, LastBySubject}
use Rattle.js_model.specs.declared.event.Event.{Event}
use Rattle.js_model.specs.declared.event.What.{What}
use Rattle.js_model.specs.declared.event.What.TheVariants.{Make, Change, Drop as DropStream, Publish as PublishIt, Purge, Delete, MakeConsumer, DropConsumer, Ack as AckIt, Pull as PullIt, Tick, StreamInfo as AskStream, MessageGet, ConsumerInfo as AskConsumer, ConsumerNames, ConsumerList}
use Rattle.js_model.specs.declared.reply.Verdict.{Verdict}
use Rattle.js_model.specs.declared.reply.Verdict.TheVariants.{Take, Duplicate as TakenBefore, Refused as RefusedBy}
use Rattle.js_model.specs.declared.reply.Reply.{Reply}
pub use Rattle.js_model.specs.declared.reply.Answer.{Answer}
use Rattle.js_model.specs.declared.reply.Reply.TheVariants.{Info as StreamTold, Done, Published, Duplicate, Purged, ConsumerInfo as ConsumerTold, Message as MessageTold, Names, Infos, Confirmed, Silent, Nobody, Refused}
use Rattle.js_model.specs.Streams.{only, by_name, with_consumer, passes_filter, seqs}
use Rattle.js_model.specs.Refusals.{first_refusal, no_stream, other_config, numbers_used_up, retention_cannot_change, no_message, no_consumer, consumer_absent, consumer_exists, no_room}
use Rattle.js_model.specs.Configs.{same_stream_config, same_consumer_config, same_retention}
use Rattle.js_model.specs.Advance.{advance, advance_outs, status_out}
use Rattle.js_model.specs.Retention.{kept}
use Rattle.js_model.specs.Trim.{trim}
use Rattle.js_model.specs.Verdict.{verdict, message_of, last_on}
use Rattle.js_model.specs.Counts.{stream_info, consumer_info}
use Rattle.js_model.specs.Acknowledge.{acknowledged, is_no_delivery}
use Rattle.js_model.specs.Pulls.{pulled, pull_outs}
use Rattle.js_model.specs.Consumers.{empty_stream, new_consumer, with_new, making_checks, queue_checks}

abbrev pub quietly : Reply → Stream → Answer
quietly reply s = record { reply = reply; outs = []; state = Live s }

abbrev pub refused : ApiError → Stream → Answer
refused e s = quietly (Refused e) s

abbrev pub is_refused : Reply → Bool
is_refused (StreamTold info) = false
is_refused Done = false
is_refused (Published n) = false
is_refused (Duplicate n) = false
is_refused (Purged n) = false
is_refused (ConsumerTold info) = false
is_refused (MessageTold m) = false
is_refused (Names total list) = false
is_refused (Infos total list) = false
is_refused Confirmed = false
is_refused Silent = false
is_refused Nobody = false
is_refused (Refused e) = true

-- the stream with what its limits and then its retention keep
abbrev pub settled : Stream → Stream
settled s = kept (trim s)

abbrev pub settled_state : State → State
settled_state (Vacant i) = Vacant i
settled_state (Live s) = Live (settled s)

-- ---- streams

-- the stream's information, as the event leaves it
abbrev pub stream_told : Stream → Answer
stream_told s = quietly (StreamTold (stream_info (settled s))) s

-- making a stream that is there
abbrev pub made_again : Stream → StreamConfig → Answer
made_again s config = if same_stream_config config s.config then stream_told s else refused other_config s

-- another configuration, if there is room for it
abbrev pub with_config : Stream → StreamConfig → Bool → Answer
with_config s config true = stream_told (record s { config = config })
with_config s config false = if same_stream_config config s.config then stream_told s else refused no_room s

abbrev pub changed : Stream → StreamConfig → Bool → Answer
changed s config room = if same_retention config.retention s.config.retention then with_config s config room else refused retention_cannot_change s

-- a 409 for each waiting pull of a consumer that goes
abbrev pub farewells : Consumer → List Out
farewells c = map (λ p. status_out p.reply (status 409 (codes "Consumer Deleted") [])) c.waiting

abbrev pub dropped : Stream → Answer
dropped s = record { reply = Done; outs = flat_map farewells s.consumers; state = Vacant s.incarnation }

-- ---- messages

-- the stream with an id that is not empty, for its last sequence
abbrev pub with_id : Stream → Bytes → Stream
with_id s [] = s
with_id s (byte ∷ more) = record s { ids = s.ids ++ record { id = byte ∷ more; seq = s.last; at = s.moment } ∷ [] }

-- the stream with the message, its sequence and its id
abbrev pub with_message : Stream → Publish → Stream
with_message s p = with_id (record s { messages = s.messages ++ message_of s p ∷ []; last = s.last + 1 }) p.wants.id

abbrev pub published : Stream → Publish → Verdict → Answer
published s p Take = quietly (Published (s.last + 1)) (with_message s p)
published s p (TakenBefore n) = quietly (Duplicate n) s
published s p (RefusedBy e) = refused e s

abbrev pub is_below : Option ℕ → ℕ → Bool
is_below None n = true
is_below (Some limit) n = nat_lt n limit

abbrev pub all_but_last : Option ℕ → List Message → List Message
all_but_last None messages = messages
all_but_last (Some keep) messages = take (length messages - keep) messages

-- the messages that a purge names
abbrev pub purge_list : Stream → Bytes → Option ℕ → Option ℕ → List Message
purge_list s pattern below keep = all_but_last keep (filter (λ m. passes_filter pattern m.subject && is_below below m.seq) s.messages)

abbrev pub without_messages : Stream → List Message → Stream
without_messages s gone = only s (filter (λ m. not (has (seqs gone) m.seq)) s.messages)

abbrev pub purged : Stream → List Message → Answer
purged s gone = quietly (Purged (length gone)) (without_messages s gone)

abbrev pub message_at : Stream → ℕ → Option Message
message_at s n = find (λ m. m.seq == n) s.messages

abbrev pub deleted : Stream → Option Message → Answer
deleted s None = refused no_message s
deleted s (Some m) = quietly Done (without_messages s (m ∷ []))

abbrev pub message_told : Stream → Option Message → Answer
message_told s None = refused no_message s
message_told s (Some m) = quietly (MessageTold m) s

abbrev pub message_by : Stream → GetBy → Option Message
message_by s (Seq n) = message_at s n
message_by s (LastBySubject subject) = last_on s subject

-- ---- consumers

abbrev pub told_of : Stream → Option Consumer → Answer
told_of s None = refused no_consumer s
told_of s (Some c) = quietly (ConsumerTold (consumer_info (settled s) c)) s

-- a consumer's information, as the event leaves it
abbrev pub consumer_told : Stream → Bytes → Answer
consumer_told s name = told_of s (by_name (settled s).consumers name)

-- a consumer that is not there is made, if nothing refuses it
abbrev pub consumer_made : Stream → Bytes → ConsumerConfig → Option ApiError → Answer
consumer_made s name config None = consumer_told (record s { consumers = with_new s.consumers (new_consumer s name config) }) name
consumer_made s name config (Some e) = refused e s

-- the refusal of the first rule that forbids it, and else that there is no room
abbrev pub or_no_room : Bool → Option ApiError → Option ApiError
or_no_room true refusal = refusal
or_no_room false None = Some no_room
or_no_room false (Some e) = Some e

abbrev pub consumer_asked : Stream → Bytes → ConsumerConfig → Bool → Bool → Option Consumer → Answer
consumer_asked s name config true room None = refused consumer_absent s
consumer_asked s name config false room None = consumer_made s name config (or_no_room room (first_refusal (making_checks s name config)))
consumer_asked s name config update room (Some c) =
    if same_consumer_config config c.config then consumer_told s name else refused (unwrap_or (first_refusal (queue_checks s name config)) consumer_exists) s

abbrev pub consumer_dropped : Stream → Option Consumer → Answer
consumer_dropped s None = refused no_consumer s
consumer_dropped s (Some c) =
    record { reply = Done; outs = farewells c; state = Live (record s { consumers = filter (λ d. not (same d.name c.name)) s.consumers }) }

-- at most this many, from a place on
abbrev pub page_of : {X : Type 0} → ℕ → ℕ → List X → List X
page_of most offset list = take most (drop offset list)

abbrev pub names_told : Stream → ℕ → Answer
names_told s offset = quietly (Names (length s.consumers) (page_of 1024 offset (map (λ c. c.name) s.consumers))) s

abbrev pub infos_told : Stream → ℕ → Answer
infos_told s offset = quietly (Infos (length s.consumers) (page_of 256 offset (map (consumer_info (settled s)) (settled s).consumers))) s

-- ---- acknowledgements and pulls

abbrev pub pull_answer : Stream → Option Bytes → Option Ask → Option Consumer → Answer
pull_answer s reply ask None = quietly Nobody s
pull_answer s reply ask (Some c) = record { reply = Silent; outs = pull_outs reply ask c; state = Live (with_consumer s (pulled s.moment reply ask c)) }

-- an acknowledgement that asks for the next message pulls, and is not confirmed
abbrev pub ack_reply : AckKind → Reply
ack_reply Acknowledge = Confirmed
ack_reply (Nak delay) = Confirmed
ack_reply Wpi = Confirmed
ack_reply (Next ask) = Silent
ack_reply Term = Confirmed

-- what it asks for
abbrev pub next_ask : AckKind → Option Ask
next_ask Acknowledge = None
next_ask (Nak delay) = None
next_ask Wpi = None
next_ask (Next ask) = Some ask
next_ask Term = None

abbrev pub pulled_next : ℕ → Option Bytes → Option Ask → Consumer → Consumer
pulled_next now reply None c = c
pulled_next now reply (Some ask) c = pulled now reply (Some ask) c

abbrev pub next_outs : Option Bytes → Option Ask → Consumer → List Out
next_outs reply None c = []
next_outs reply (Some ask) c = pull_outs reply (Some ask) c

-- the consumer after the acknowledgement, and after what it asks for
abbrev pub after_ack : ℕ → Option Bytes → ℕ → AckKind → Consumer → Consumer
after_ack now reply n kind c = pulled_next now reply (next_ask kind) (acknowledged now n kind c)

abbrev pub ack_done : Stream → Option Bytes → ℕ → AckKind → Consumer → Answer
ack_done s reply n kind c = record {
  reply = ack_reply kind;
  outs = next_outs reply (next_ask kind) (acknowledged s.moment n kind c);
  state = Live (with_consumer s (after_ack s.moment reply n kind c));
}

abbrev pub ack_answer : Stream → Option Bytes → ℕ → AckKind → Option Consumer → Answer
ack_answer s reply n kind None = quietly Silent s
ack_answer s reply n kind (Some c) = if is_no_delivery c n then quietly Silent s else ack_done s reply n kind c

-- ---- all of them

-- what an event does to a stream at its moment
abbrev pub stream_answer : Stream → What → Bool → Answer
stream_answer s (Make reply config) room = made_again s config
stream_answer s (Change reply config) room = changed s config room
stream_answer s (DropStream reply) room = dropped s
stream_answer s (PublishIt p) room = published s p (verdict s p room)
stream_answer s (Purge reply pattern below keep) room = purged s (purge_list s pattern below keep)
stream_answer s (Delete reply n) room = deleted s (message_at s n)
stream_answer s (MakeConsumer reply name config update) room = consumer_asked s name config update room (by_name s.consumers name)
stream_answer s (DropConsumer reply name) room = consumer_dropped s (by_name s.consumers name)
stream_answer s (AckIt reply ack) room = ack_answer s reply ack.seq ack.kind (by_name s.consumers ack.consumer)
stream_answer s (PullIt reply name ask) room = pull_answer s reply ask (by_name s.consumers name)
stream_answer s Tick room = quietly Silent s
stream_answer s (AskStream reply) room = stream_told s
stream_answer s (MessageGet reply by) room = message_told s (message_by s by)
stream_answer s (AskConsumer reply name) room = consumer_told s name
stream_answer s (ConsumerNames reply offset) room = names_told s offset
stream_answer s (ConsumerList reply offset) room = infos_told s offset

abbrev pub vacantly : Reply → ℕ → Answer
vacantly reply i = record { reply = reply; outs = []; state = Vacant i }

-- a stream is made, if there is room for it
abbrev pub stream_made : ℕ → StreamConfig → ℕ → Bool → Answer
stream_made i config now true = stream_told (empty_stream (i + 1) config now)
stream_made i config now false = vacantly (Refused no_room) i

-- what an event does if there is no stream
abbrev pub vacant_answer : ℕ → What → ℕ → Bool → Answer
vacant_answer i (Make reply config) now room = if i + 1 == 2 ^ 62 then vacantly (Refused numbers_used_up) i else stream_made i config now room
vacant_answer i Tick now room = vacantly Silent i
vacant_answer i (Change reply config) now room = vacantly (Refused no_stream) i
vacant_answer i (DropStream reply) now room = vacantly (Refused no_stream) i
vacant_answer i (PublishIt p) now room = vacantly (Refused no_stream) i
vacant_answer i (Purge reply pattern below keep) now room = vacantly (Refused no_stream) i
vacant_answer i (Delete reply n) now room = vacantly (Refused no_stream) i
vacant_answer i (MakeConsumer reply name config update) now room = vacantly (Refused no_stream) i
vacant_answer i (DropConsumer reply name) now room = vacantly (Refused no_stream) i
vacant_answer i (AckIt reply ack) now room = vacantly (Refused no_stream) i
vacant_answer i (PullIt reply name ask) now room = vacantly (Refused no_stream) i
vacant_answer i (AskStream reply) now room = vacantly (Refused no_stream) i
vacant_answer i (MessageGet reply by) now room = vacantly (Refused no_stream) i
vacant_answer i (AskConsumer reply name) now room = vacantly (Refused no_stream) i
vacant_answer i (ConsumerNames reply offset) now room = vacantly (Refused no_stream) i
vacant_answer i (ConsumerList reply offset) now room = vacantly (Refused no_stream) i

-- what may make a place hold more, and so asks for room; all else has what it needs
abbrev pub asks_room : What → Bool
asks_room (Make reply config) = true
asks_room (Change reply config) = true
asks_room (PublishIt p) = true
asks_room (MakeConsumer reply name config update) = true
asks_room (DropStream reply) = false
asks_room (Purge reply pattern below keep) = false
asks_room (Delete reply n) = false
asks_room (DropConsumer reply name) = false
asks_room (AckIt reply ack) = false
asks_room (PullIt reply name ask) = false
asks_room Tick = false
asks_room (AskStream reply) = false
asks_room (MessageGet reply by) = false
asks_room (AskConsumer reply name) = false
asks_room (ConsumerNames reply offset) = false
asks_room (ConsumerList reply offset) = false

-- the incarnation that an event for the place names
abbrev pub kept_incarnation : State → ℕ
kept_incarnation (Vacant i) = i + 1
kept_incarnation (Live s) = s.incarnation

-- what time sent, and then the event's own; what its limits and its retention keep of the stream
abbrev pub completed : List Out → Answer → Answer
completed outs a = record { reply = a.reply; outs = outs ++ a.outs; state = settled_state a.state }

-- what an event does at a moment; `room` is whether there is room for it
unfoldable pub answered : State → Event → ℕ → Bool → Answer
answered (Vacant i) e now room = completed [] (vacant_answer i e.what now room)
answered (Live s) e now room = completed (advance_outs s now) (stream_answer (advance s now) e.what room)

-- the event answers this, sends this and leaves this
pub record IsEvent (old : State) (e : Event) (now : ℕ) (reply : Reply) (outs : List Out) (new : State) : Type 0 where
  pub kept : e.incarnation ≡ kept_incarnation old
  pub room : Bool
  pub answers : answered old e now room ≡ record { reply = reply; outs = outs; state = new }

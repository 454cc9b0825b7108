-- Events as the server's readers give them, with the names, subjects, patterns, configurations, header blocks and numbers that this server accepts.
use Rattle.std.specs.Prelude.{◌+◌, ◌^◌, nat_le, Bool, true, ◌&&◌, ◌||◌, length, Option, Some, None}
use Rattle.js_base.specs.Bytes.{Bytes, is_empty, same}
use Rattle.js_base.specs.Headers.{is_block}
use Rattle.js_base.specs.Subjects.{is_pattern_text, is_subject_text}
use Rattle.js_model.specs.declared.ack.Ask.{Ask}
use Rattle.js_model.specs.declared.ack.AckKind.{AckKind}
use Rattle.js_model.specs.declared.ack.AckKind.TheVariants.{Ack as Acknowledge, Nak, Wpi, Next, Term}
use Rattle.js_model.specs.declared.event.Publish.{Publish}
use Rattle.js_model.specs.declared.event.GetBy.TheVariants.{Seq, LastBySubject}
use Rattle.js_model.specs.declared.event.Event.{Event}
use Rattle.js_model.specs.declared.event.What.{What}
use Rattle.js_model.specs.declared.event.What.TheVariants.{Make, Change, Drop as DropStream, Publish as PublishIt, Purge, Delete, MakeConsumer, DropConsumer, Ack as AckIt, Pull as PullIt, Tick, StreamInfo as AskStream, MessageGet, ConsumerInfo as AskConsumer, ConsumerNames, ConsumerList}
use Rattle.js_model.specs.Configs.{is_name, is_number, is_stream_config, is_consumer_config}

abbrev pub if_given : {X : Type 0} → (X → Bool) → Option X → Bool
if_given test None = true
if_given test (Some x) = test x

-- the subject that an event names for its answer
abbrev pub reply_of : What → Option Bytes
reply_of (Make reply config) = reply
reply_of (Change reply config) = reply
reply_of (DropStream reply) = reply
reply_of (PublishIt p) = p.reply
reply_of (Purge reply pattern below keep) = reply
reply_of (Delete reply seq) = reply
reply_of (MakeConsumer reply name config update) = reply
reply_of (DropConsumer reply name) = reply
reply_of (AckIt reply ack) = reply
reply_of (PullIt reply consumer ask) = reply
reply_of Tick = None
reply_of (AskStream reply) = reply
reply_of (MessageGet reply by) = reply
reply_of (AskConsumer reply name) = reply
reply_of (ConsumerNames reply offset) = reply
reply_of (ConsumerList reply offset) = reply

abbrev pub is_proper_ask : Ask → Bool
is_proper_ask ask = is_number ask.batch && is_number ask.expires && if_given is_number ask.max_bytes && is_number ask.heartbeat

abbrev pub is_proper_kind : AckKind → Bool
is_proper_kind (Nak delay) = is_number delay
is_proper_kind (Next ask) = is_proper_ask ask
is_proper_kind Acknowledge = true
is_proper_kind Wpi = true
is_proper_kind Term = true

abbrev pub is_proper_publish : Publish → Bool
is_proper_publish p =
    is_subject_text p.subject && (is_empty p.headers || is_block p.headers) && nat_le (length p.headers + length p.payload) 1048576
    && if_given is_number p.wants.last && if_given is_number p.wants.subject_last

abbrev pub is_proper_what : What → Bool
is_proper_what (Make reply config) = is_stream_config config
is_proper_what (Change reply config) = is_stream_config config
is_proper_what (PublishIt p) = is_proper_publish p
is_proper_what (Purge reply pattern below keep) = (is_empty pattern || is_pattern_text pattern) && if_given is_number below && if_given is_number keep
is_proper_what (Delete reply seq) = is_number seq
is_proper_what (MakeConsumer reply name config update) = is_name name && is_consumer_config config && same config.name name
is_proper_what (DropConsumer reply name) = is_name name
is_proper_what (AckIt reply ack) = is_name ack.stream && is_name ack.consumer && is_number ack.seq && is_proper_kind ack.kind
is_proper_what (PullIt reply consumer ask) = is_name consumer && if_given is_proper_ask ask
is_proper_what (MessageGet reply (Seq n)) = is_number n
is_proper_what (MessageGet reply (LastBySubject subject)) = is_subject_text subject
is_proper_what (AskConsumer reply name) = is_name name
is_proper_what (ConsumerNames reply offset) = is_number offset
is_proper_what (ConsumerList reply offset) = is_number offset
is_proper_what (DropStream reply) = true
is_proper_what Tick = true
is_proper_what (AskStream reply) = true

-- an event as a reader gives it
abbrev pub is_proper : Event → Bool
is_proper e = nat_le e.incarnation (2 ^ 62) && if_given is_subject_text (reply_of e.what) && is_proper_what e.what

-- In which order a consumer's messages are sent, and from where on, by the deliver policies of JetStream's consumers.
use Rattle.std.specs.Prelude.{◌≡◌, ◌≤◌, ◌+◌, ◌++◌, map, filter, All, Contains, ◌&&◌, ◌==◌, Bool, true, ℕ, List, [], ◌∷◌, Option, Some, None, ⊤, MatchBool}
use Rattle.std.specs.List.{list_any, last_or}
use Rattle.js_base.specs.Bytes.{Bytes, same}
use Rattle.js_base.specs.declared.out.Out.{Out}
use Rattle.js_model.specs.declared.stream.Message.{Message}
use Rattle.js_model.specs.declared.stream.Stream.{Stream}
use Rattle.js_model.specs.declared.stream.State.{State}
use Rattle.js_model.specs.declared.consumer_config.ConsumerConfig.{ConsumerConfig}
use Rattle.js_model.specs.declared.consumer.Consumer.{Consumer}
use Rattle.js_model.specs.declared.event.Event.{Event}
use Rattle.js_model.specs.declared.event.Publish.{Publish}
use Rattle.js_model.specs.declared.event.What.{What}
use Rattle.js_model.specs.declared.event.What.TheVariants.{Make, Change, Drop as DropStream, Publish as PublishIt, Purge, Delete, MakeConsumer, DropConsumer, Ack as AckIt, Pull as PullIt, Tick, StreamInfo as AskStream, MessageGet, ConsumerInfo as AskConsumer, ConsumerNames, ConsumerList}
use Rattle.js_model.specs.declared.reply.ConsumerInfo.{ConsumerInfo}
use Rattle.js_model.specs.declared.reply.Reply.{Reply}
use Rattle.js_model.specs.declared.reply.Reply.TheVariants.{Info as StreamTold, Done, Published, Duplicate, Purged, ConsumerInfo as ConsumerTold, Message as MessageTold, Names, Infos, Confirmed, Silent, Nobody, Refused}
use Rattle.js_model.specs.declared.entry.Delivered.{Delivered}
use Rattle.js_model.specs.declared.entry.Delivered.TheVariants.{Sent, TooSmall, Emptied}
use Rattle.js_model.specs.declared.entry.Delivery.{Delivery}
use Rattle.js_model.specs.declared.entry.Call.TheVariants.{Step as StepOf, Deliver as DeliverOf}
use Rattle.js_model.specs.declared.entry.PlaceEntry.{PlaceEntry}
use Rattle.js_model.specs.declared.entry.PlaceEntry.TheVariants.{Step, Deliver, Broken}
use Rattle.js_model.specs.Lists.{Ascends, IsPart}
use Rattle.js_model.specs.Streams.{passes_filter}
use Rattle.js_model.specs.Start.{picks_at, cursor_at}
use Rattle.js_model.specs.Runs.{messages_of}
use Rattle.model_laws.specs.OneConsumer.{drops, consumer_of}
use Rattle.model_laws.specs.Sendings.{Sending, sending_to, sendings}

-- the consumer sequences follow one after the other
abbrev pub Follow : ℕ → List Sending → Type 0
Follow dseq [] = ⊤
Follow dseq (x ∷ xs) = (x.dseq ≡ dseq + 1) × Follow (dseq + 1) xs

-- the sequences that are delivered for the first time
abbrev pub firsts : List Sending → List ℕ
firsts xs = map (λ x. x.seq) (filter (λ x. x.count == 1) xs)

-- some picks in their order, and then ascending sequences from the cursor on
pub record IsStartOrder (picks : List ℕ) (cursor : ℕ) (seqs : List ℕ) : Type 0 where
  pub picked : List ℕ
  pub rising : List ℕ
  pub split : seqs ≡ picked ++ rising
  pub part : IsPart picked picks
  pub ascends : Ascends cursor rising

-- what is sent of a message that was stored, and under which sequence
pub record Stored : Type 0 where
  pub seq : ℕ
  pub subject : Bytes
  pub headers : Bytes
  pub payload : Bytes

abbrev pub stored_of : Message → Stored
stored_of m = record { seq = m.seq; subject = m.subject; headers = m.headers; payload = m.payload }

abbrev pub stored_first : State → List Stored
stored_first s = map stored_of (messages_of s)

-- what a publish stores, by its answer
abbrev pub stored_as : Publish → Reply → List Stored
stored_as p (Published n) = record { seq = n; subject = p.subject; headers = p.headers; payload = p.payload } ∷ []
stored_as p (StreamTold info) = []
stored_as p Done = []
stored_as p (Duplicate m) = []
stored_as p (Purged m) = []
stored_as p (ConsumerTold info) = []
stored_as p (MessageTold message) = []
stored_as p (Names total list) = []
stored_as p (Infos total list) = []
stored_as p Confirmed = []
stored_as p Silent = []
stored_as p Nobody = []
stored_as p (Refused e) = []

-- what an event stores
abbrev pub stored_by : What → Reply → List Stored
stored_by (PublishIt p) reply = stored_as p reply
stored_by (Make asked config) reply = []
stored_by (Change asked config) reply = []
stored_by (DropStream asked) reply = []
stored_by (Purge asked pattern below keep) reply = []
stored_by (Delete asked n) reply = []
stored_by (MakeConsumer asked other config update) reply = []
stored_by (DropConsumer asked other) reply = []
stored_by (AckIt asked ack) reply = []
stored_by (PullIt asked other ask) reply = []
stored_by Tick reply = []
stored_by (AskStream asked) reply = []
stored_by (MessageGet asked by) reply = []
stored_by (AskConsumer asked other) reply = []
stored_by (ConsumerNames asked offset) reply = []
stored_by (ConsumerList asked offset) reply = []

-- a message of this sequence was stored, and the filter matches its subject
abbrev pub was_stored : Bytes → List Stored → ℕ → Bool
was_stored pattern stored n = list_any (λ x. x.seq == n && passes_filter pattern x.subject) stored

abbrev pub WereStored : Bytes → List Stored → List Sending → Type 0
WereStored pattern stored [] = ⊤
WereStored pattern stored (x ∷ xs) = (was_stored pattern stored x.seq ≡ true) × WereStored pattern stored xs

-- the output brings the message that was stored under this sequence, which the filter matches
pub record Brings (pattern : Bytes) (stored : List Stored) (n : ℕ) (o : Out) : Type 0 where
  pub message : Stored
  pub known : Contains stored message
  pub seq : message.seq ≡ n
  pub passes : passes_filter pattern message.subject ≡ true
  pub subject : o.subject ≡ message.subject
  pub headers : o.headers ≡ message.headers
  pub payload : o.payload ≡ message.payload

abbrev pub BringsIt : Bytes → List Stored → ℕ → Option Out → Type 0
BringsIt pattern stored n None = ⊥
BringsIt pattern stored n (Some o) = Brings pattern stored n o

-- a message that is sent is brought by the last output of its entry
abbrev pub IsBrought : Bytes → List Stored → Delivered → List Out → Type 0
IsBrought pattern stored (Sent seq count dseq) outs = BringsIt pattern stored seq (last_or None outs)
IsBrought pattern stored TooSmall outs = ⊤
IsBrought pattern stored Emptied outs = ⊤

abbrev pub IsBroughtTo : Bytes → Bytes → List Stored → Delivery → List Out → Type 0
IsBroughtTo name pattern stored d outs = MatchBool (same d.consumer name) (IsBrought pattern stored d.what outs) ⊤

-- what is sent to the consumer was stored at first or by an entry before, and its filter matches it
abbrev pub SendsStored : Bytes → Bytes → List Stored → List PlaceEntry → Type 0
SendsStored name pattern stored [] = ⊤
SendsStored name pattern stored (Step seat e now reply outs unsaid ∷ entries) = MatchBool (drops name e.what) ⊤ (SendsStored name pattern (stored_by e.what reply ++ stored) entries)
SendsStored name pattern stored (Deliver seat now listening d outs ∷ entries) = IsBroughtTo name pattern stored d outs × SendsStored name pattern stored entries
SendsStored name pattern stored (Broken seat now (StepOf e) ∷ entries) = ⊤
SendsStored name pattern stored (Broken seat now (DeliverOf listening d) ∷ entries) = WereStored pattern stored (sending_to name d)

-- each is sent for the first time, or again
abbrev pub AreCounted : List Sending → Type 0
AreCounted xs = All (λ x. 1 ≤ x.count) xs

pub record IsInOrder (name : Bytes) (old : State) (c : Consumer) (entries : List PlaceEntry) : Type 0 where
  pub consecutive : Follow c.dseq (sendings name entries)
  pub counts : AreCounted (sendings name entries)
  pub start : IsStartOrder c.picks c.cursor (firsts (sendings name entries))
  pub stored : SendsStored name c.config.filter_subject (stored_first old) entries

-- the event makes the consumer of this name, which was not there
pub record Makes (old : State) (e : Event) (reply : Reply) (name : Bytes) (config : ConsumerConfig) : Type 0 where
  pub asked : Option Bytes
  pub update : Bool
  pub info : ConsumerInfo
  pub event : e.what ≡ MakeConsumer asked name config update
  pub absent : consumer_of name old ≡ None
  pub told : reply ≡ ConsumerTold info

-- what is sent to a consumer that was made on the stream begins where its deliver policy does in that stream
pub record IsFromStart (name : Bytes) (config : ConsumerConfig) (s : Stream) (made : State) (entries : List PlaceEntry) : Type 0 where
  pub consecutive : Follow 0 (sendings name entries)
  pub counts : AreCounted (sendings name entries)
  pub start : IsStartOrder (picks_at config.deliver_policy config.filter_subject s) (cursor_at config.deliver_policy config.filter_subject s) (firsts (sendings name entries))
  pub stored : SendsStored name config.filter_subject (stored_first made) entries

-- A fact of a stream that each change of the machine keeps holds after each event and each delivery.
use Rattle.std.proofs.Common.{◌≡◌, ℕ, ◌+◌, ◌^◌, Bool, true, false, not, cond, List, refl, sym, ap, subst}
use Rattle.std.specs.Prelude.{Option, Some, None, filter, ◌==◌}
use Rattle.js_base.specs.Bytes.{Bytes, same}
use Rattle.js_base.specs.declared.out.Out.{Out}
use Rattle.js_base.specs.declared.out.ApiError.{ApiError}
use Rattle.js_model.specs.Lists.{IsPart}
use Rattle.js_model.specs.declared.stream_config.StreamConfig.{StreamConfig}
use Rattle.js_model.specs.declared.consumer_config.ConsumerConfig.{ConsumerConfig}
use Rattle.js_model.specs.declared.stream.Message.{Message}
use Rattle.js_model.specs.declared.stream.Stream.{Stream}
use Rattle.js_model.specs.declared.stream.State.{State}
use Rattle.js_model.specs.declared.stream.State.TheVariants.{Vacant, Live}
use Rattle.js_model.specs.declared.consumer.Consumer.{Consumer}
use Rattle.js_model.specs.declared.ack.Ask.{Ask}
use Rattle.js_model.specs.declared.ack.Ack.{Ack}
use Rattle.js_model.specs.declared.event.Event.{Event}
use Rattle.js_model.specs.declared.event.Publish.{Publish}
use Rattle.js_model.specs.declared.event.What.{What}
use Rattle.js_model.specs.declared.event.What.TheVariants.{Make, Change, Drop as DropStream, Publish as PublishIt, Purge, Delete, MakeConsumer, DropConsumer, Ack as AckIt, Pull as PullIt, Tick, StreamInfo as AskStream, MessageGet, ConsumerInfo as AskConsumer, ConsumerNames, ConsumerList}
use Rattle.js_model.specs.declared.reply.Reply.{Reply}
use Rattle.js_model.specs.declared.reply.Reply.TheVariants.{Silent}
use Rattle.js_model.specs.declared.reply.Verdict.{Verdict}
use Rattle.js_model.specs.declared.reply.Verdict.TheVariants.{Take, Duplicate as TakenBefore, Refused as RefusedBy}
use Rattle.js_model.specs.declared.entry.Delivery.{Delivery}
use Rattle.js_model.specs.declared.reply.Answer.{Answer}
use Rattle.js_model.specs.Streams.{only, by_name, with_consumer}
use Rattle.js_model.specs.Refusals.{first_refusal}
use Rattle.js_model.specs.Configs.{same_stream_config, same_consumer_config, same_retention}
use Rattle.js_model.specs.Advance.{advance}
use Rattle.js_model.specs.Retention.{kept}
use Rattle.js_model.specs.Trim.{trim, trim_subjects, trim_count}
use Rattle.js_model.specs.Verdict.{verdict}
use Rattle.js_model.specs.Acknowledge.{is_no_delivery}
use Rattle.js_model.specs.Pulls.{pulled}
use Rattle.js_model.specs.Consumers.{empty_stream, new_consumer, with_new, making_checks}
use Rattle.js_model.specs.Events.{stream_answer, stream_made, vacant_answer, with_config, answered, settled, settled_state, published, with_message, deleted, message_at, message_told, message_by, told_of, consumer_made, or_no_room, consumer_asked, consumer_dropped, pull_answer, ack_answer, ack_done, after_ack, quietly, IsEvent}
use Rattle.js_model.specs.Deliver.{IsDelivered}
use Rattle.js_model.proofs.Parts.{filter_part, drop_part, newest_at_part, fitting_at_part}

-- P is kept by each change that allowed events make at their moment; V holds if there is no stream
pub record IsChangeFact (allowed : What → Type 0) (V : Type 0) (P : Stream → Type 0) : Type 0 where
  pub gone : (s : Stream) (reply : Option Bytes) → allowed (DropStream reply) → P s → V
  pub only : (s : Stream) (messages : List Message) → IsPart messages s.messages → P s → P (only s messages)
  pub configured : (s : Stream) (reply : Option Bytes) (config : StreamConfig) → allowed (Change reply config) → P s → P (record s { config = config })
  pub stored : (s : Stream) (p : Publish) (room : Bool) → allowed (PublishIt p) → verdict s p room ≡ Take → P s → P (with_message s p)
  pub made : (s : Stream) (reply : Option Bytes) (name : Bytes) (config : ConsumerConfig) → allowed (MakeConsumer reply name config false) → by_name s.consumers name ≡ None
      → first_refusal (making_checks s name config) ≡ None → P s → P (record s { consumers = with_new s.consumers (new_consumer s name config) })
  pub removed : (s : Stream) (reply : Option Bytes) (name : Bytes) (c : Consumer) → allowed (DropConsumer reply name) → by_name s.consumers name ≡ Some c
      → P s → P (record s { consumers = filter (λ d. not (same d.name c.name)) s.consumers })
  pub acked : (s : Stream) (reply : Option Bytes) (ack : Ack) (c : Consumer) → allowed (AckIt reply ack) → by_name s.consumers ack.consumer ≡ Some c → is_no_delivery c ack.seq ≡ false
      → P s → P (with_consumer s (after_ack s.moment reply ack.seq ack.kind c))
  pub pulled : (s : Stream) (reply : Option Bytes) (name : Bytes) (ask : Option Ask) (c : Consumer) → allowed (PullIt reply name ask) → by_name s.consumers name ≡ Some c
      → P s → P (with_consumer s (pulled s.moment reply ask c))

-- P is kept by time too, and an empty stream satisfies it
pub record IsStreamFact (allowed : What → Type 0) (V : Type 0) (P : Stream → Type 0) : Type 0 where
  pub change : IsChangeFact allowed V P
  pub empty : (i now : ℕ) (reply : Option Bytes) (config : StreamConfig) → allowed (Make reply config) → V → P (empty_stream (i + 1) config now)
  pub time : (s : Stream) (now : ℕ) → P s → P (advance s now)

-- the place is vacant, or its stream satisfies P
abbrev pub IfLive : Type 0 → (Stream → Type 0) → State → Type 0
IfLive V P (Vacant i) = V
IfLive V P (Live s) = P s

module _ (allowed : What → Type 0) (V : Type 0) (P : Stream → Type 0) (k : IsChangeFact allowed V P) where
  pub change_kept : (s : Stream) → P s → P (kept s)
  unfolding kept
  change_kept s h = k.only s _ (filter_part _ s.messages) h

  change_trim : (s : Stream) → P s → P (trim s)
  unfolding trim
  change_trim s h =
      k.only (trim_count (trim_subjects s)) _ (fitting_at_part s.config.max_bytes (trim_count (trim_subjects s)).messages)
      (k.only (trim_subjects s) _ (drop_part _ (trim_subjects s).messages)
      (k.only s _ (newest_at_part s.config.max_msgs_per_subject s.messages) h))

  pub change_settled : (s : State) → IfLive V P s → IfLive V P (settled_state s)
  change_settled (Vacant i) h = h
  change_settled (Live s) h = change_kept (trim s) (change_trim s h)

  change_cond : (b : Bool) (a c : Answer) → IfLive V P a.state → IfLive V P c.state → IfLive V P (cond b a c).state
  change_cond true a c h g = h
  change_cond false a c h g = g

  change_published : (s : Stream) (p : Publish) (room : Bool) (v : Verdict) → verdict s p room ≡ v → allowed (PublishIt p) → P s → IfLive V P (published s p v).state
  change_published s p room Take e g h = k.stored s p room g e h
  change_published s p room (TakenBefore n) e g h = h
  change_published s p room (RefusedBy r) e g h = h

  change_deleted : (s : Stream) (m : Option Message) → P s → IfLive V P (deleted s m).state
  change_deleted s None h = h
  change_deleted s (Some m) h = k.only s _ (filter_part _ s.messages) h

  change_message : (s : Stream) (m : Option Message) → P s → IfLive V P (message_told s m).state
  change_message s None h = h
  change_message s (Some m) h = h

  -- telling of a consumer changes nothing
  change_told : (s : Stream) (c : Option Consumer) → P s → IfLive V P (told_of s c).state
  change_told s None h = h
  change_told s (Some c) h = h

  change_config : (s : Stream) (reply : Option Bytes) (config : StreamConfig) (room : Bool) → allowed (Change reply config) → P s → IfLive V P (with_config s config room).state
  change_config s reply config true g h = k.configured s reply config g h
  change_config s reply config false g h = change_cond (same_stream_config config s.config) _ _ h h

  change_made : (s : Stream) (reply : Option Bytes) (name : Bytes) (config : ConsumerConfig) (room : Bool) (e : Option ApiError) → first_refusal (making_checks s name config) ≡ e → allowed (MakeConsumer reply name config false) → by_name s.consumers name ≡ None → P s
      → IfLive V P (consumer_made s name config (or_no_room room e)).state
  change_made s reply name config true None q g absent h = change_told (record s { consumers = with_new s.consumers (new_consumer s name config) }) _ (k.made s reply name config g absent q h)
  change_made s reply name config true (Some e) q g absent h = h
  change_made s reply name config false None q g absent h = h
  change_made s reply name config false (Some e) q g absent h = h

  change_asked : (s : Stream) (reply : Option Bytes) (name : Bytes) (config : ConsumerConfig) (update room : Bool) (c : Option Consumer) → by_name s.consumers name ≡ c → allowed (MakeConsumer reply name config update) → P s → IfLive V P (consumer_asked s name config update room c).state
  change_asked s reply name config true room None e g h = h
  change_asked s reply name config false room None e g h = change_made s reply name config room (first_refusal (making_checks s name config)) refl g e h
  change_asked s reply name config true room (Some c) e g h = change_cond (same_consumer_config config c.config) _ _ (change_told s _ h) h
  change_asked s reply name config false room (Some c) e g h = change_cond (same_consumer_config config c.config) _ _ (change_told s _ h) h

  change_dropped : (s : Stream) (reply : Option Bytes) (name : Bytes) (c : Option Consumer) → by_name s.consumers name ≡ c → allowed (DropConsumer reply name) → P s → IfLive V P (consumer_dropped s c).state
  change_dropped s reply name None e g h = h
  change_dropped s reply name (Some c) e g h = k.removed s reply name c g e h

  change_pulled : (s : Stream) (reply : Option Bytes) (name : Bytes) (ask : Option Ask) (c : Option Consumer) → by_name s.consumers name ≡ c → allowed (PullIt reply name ask) → P s → IfLive V P (pull_answer s reply ask c).state
  change_pulled s reply name ask None e g h = h
  change_pulled s reply name ask (Some c) e g h = k.pulled s reply name ask c g e h

  change_acked : (s : Stream) (reply : Option Bytes) (ack : Ack) (c : Option Consumer) → by_name s.consumers ack.consumer ≡ c → allowed (AckIt reply ack) → P s → IfLive V P (ack_answer s reply ack.seq ack.kind c).state
  change_acked s reply ack None e g h = h
  change_acked s reply ack (Some c) e g h = go (is_no_delivery c ack.seq) refl
    where
      go : (b : Bool) → is_no_delivery c ack.seq ≡ b → IfLive V P (cond b (quietly Silent s) (ack_done s reply ack.seq ack.kind c)).state
      go true q = h
      go false q = k.acked s reply ack c g e q h

  pub change_answer : (s : Stream) (what : What) (room : Bool) → allowed what → P s → IfLive V P (stream_answer s what room).state
  change_answer s (Make reply config) room g h = change_cond (same_stream_config config s.config) _ _ h h
  change_answer s (Change reply config) room g h = change_cond (same_retention config.retention s.config.retention) _ _ (change_config s reply config room g h) h
  change_answer s (DropStream reply) room g h = k.gone s reply g h
  change_answer s (PublishIt p) room g h = change_published s p room (verdict s p room) refl g h
  change_answer s (Purge reply pattern below keep) room g h = k.only s _ (filter_part _ s.messages) h
  change_answer s (Delete reply n) room g h = change_deleted s (message_at s n) h
  change_answer s (MakeConsumer reply name config update) room g h = change_asked s reply name config update room (by_name s.consumers name) refl g h
  change_answer s (DropConsumer reply name) room g h = change_dropped s reply name (by_name s.consumers name) refl g h
  change_answer s (AckIt reply ack) room g h = change_acked s reply ack (by_name s.consumers ack.consumer) refl g h
  change_answer s (PullIt reply name ask) room g h = change_pulled s reply name ask (by_name s.consumers name) refl g h
  change_answer s Tick room g h = h
  change_answer s (AskStream reply) room g h = h
  change_answer s (MessageGet reply by) room g h = change_message s (message_by s by) h
  change_answer s (AskConsumer reply name) room g h = change_told s (by_name (settled s).consumers name) h
  change_answer s (ConsumerNames reply offset) room g h = h
  change_answer s (ConsumerList reply offset) room g h = h

  -- an event on a stream of which P holds at the event's moment
  pub change_time : (s : Stream) (new : State) (e : Event) (now : ℕ) (reply : Reply) (outs : List Out) → IsEvent (Live s) e now reply outs new → allowed e.what → P (advance s now) → IfLive V P new
  unfolding answered
  change_time s new e now reply outs x g h =
      subst (IfLive V P) (ap (λ (a : Answer). a.state) x.answers) (change_settled (stream_answer (advance s now) e.what x.room).state (change_answer (advance s now) e.what x.room g h))

module _ (allowed : What → Type 0) (V : Type 0) (P : Stream → Type 0) (k : IsStreamFact allowed V P) where
  pub at_kept : (s : Stream) → P s → P (kept s)
  at_kept s h = change_kept allowed V P k.change s h

  pub at_settled : (s : State) → IfLive V P s → IfLive V P (settled_state s)
  at_settled s h = change_settled allowed V P k.change s h

  pub at_answer : (s : Stream) (what : What) (room : Bool) → allowed what → P s → IfLive V P (stream_answer s what room).state
  at_answer s what room g h = change_answer allowed V P k.change s what room g h

  pub at_time : (s : Stream) (new : State) (e : Event) (now : ℕ) (reply : Reply) (outs : List Out) → IsEvent (Live s) e now reply outs new → allowed e.what → P (advance s now) → IfLive V P new
  at_time s new e now reply outs x g h = change_time allowed V P k.change s new e now reply outs x g h

  at_cond : (b : Bool) (a c : Answer) → IfLive V P a.state → IfLive V P c.state → IfLive V P (cond b a c).state
  at_cond true a c h g = h
  at_cond false a c h g = g

  at_vacant : (i : ℕ) (what : What) (now : ℕ) (room : Bool) → allowed what → V → IfLive V P (vacant_answer i what now room).state
  at_vacant i (Make reply config) now room g v = at_cond (i + 1 == 2 ^ 62) _ _ v (made room)
    where
      made : (room : Bool) → IfLive V P (stream_made i config now room).state
      made true = k.empty i now reply config g v
      made false = v
  at_vacant i _ now room g v = v

  pub at_event : (old new : State) (e : Event) (now : ℕ) (reply : Reply) (outs : List Out) → IsEvent old e now reply outs new → allowed e.what → IfLive V P old → IfLive V P new
  unfolding answered
  at_event (Vacant i) new e now reply outs x g h = subst (IfLive V P) (ap (λ (a : Answer). a.state) x.answers) (at_settled (vacant_answer i e.what now x.room).state (at_vacant i e.what now x.room g h))
  at_event (Live s) new e now reply outs x g h = at_time s new e now reply outs x g (k.time s now h)

  -- a fact of which the consumers are no part
  pub at_delivery : ((s : Stream) (c : Consumer) → P s → P (with_consumer s c)) → (old new : State) (now : ℕ) (listening : List Bytes) (d : Delivery) (outs : List Out)
      → IsDelivered old now listening d outs new → IfLive V P old → IfLive V P new
  at_delivery f (Vacant i) new now listening d outs x h = absurd x
  at_delivery f (Live s) new now listening d outs x h = subst (IfLive V P) (sym x.new_is) (at_kept _ (f (advance s now) x.after (k.time s now h)))

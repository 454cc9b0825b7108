-- What a live stream answers at its own moment, and what it leaves once its limits and its retention have let messages go.
use Rattle.std.proofs.Common.{◌≡◌, ◌∙◌, ℕ, ◌+◌, Bool, true, false, List, [], ◌++◌, append-nil, length, if◌then◌else◌, Option, Some, None, refl, sym, ap, subst}
use Rattle.std.proofs.lemmas.Bool.{true≢false}
use Rattle.std.specs.Prelude.{map, option_map, unwrap_or}
use Rattle.js_base.specs.Bytes.{Bytes}
use Rattle.js_base.specs.declared.out.Out.{Out}
use Rattle.js_base.specs.declared.out.ApiError.{ApiError}
use Rattle.js_model.specs.declared.stream_config.StreamConfig.{StreamConfig}
use Rattle.js_model.specs.declared.consumer_config.ConsumerConfig.{ConsumerConfig}
use Rattle.js_model.specs.declared.consumer.Consumer.{Consumer}
use Rattle.js_model.specs.declared.stream.Message.{Message}
use Rattle.js_model.specs.declared.stream.Stream.{Stream}
use Rattle.js_model.specs.declared.stream.State.TheVariants.{Live}
use Rattle.js_model.specs.declared.event.GetBy.{GetBy}
use Rattle.js_model.specs.declared.event.Publish.{Publish}
use Rattle.js_model.specs.declared.reply.Verdict.{Verdict}
use Rattle.js_model.specs.declared.reply.Verdict.TheVariants.{Take, Duplicate as TakenBefore, Refused as RefusedBy}
use Rattle.js_model.specs.declared.reply.Reply.{Reply}
use Rattle.js_model.specs.declared.reply.Reply.TheVariants.{Info as StreamTold, Published, Duplicate, Purged, Message as MessageTold, ConsumerInfo as ConsumerTold, Names, Infos, Refused}
use Rattle.js_model.specs.declared.reply.Answer.{Answer}
use Rattle.js_model.specs.declared.reply.ConsumerInfo.{ConsumerInfo}
use Rattle.js_model.specs.declared.reply.StreamInfo.{StreamInfo}
use Rattle.js_model.specs.Configs.{same_consumer_config, same_retention, same_stream_config}
use Rattle.js_model.specs.Consumers.{making_checks, new_consumer, queue_checks, with_new}
use Rattle.js_model.specs.Counts.{consumer_info, stream_info}
use Rattle.js_model.specs.Events.{changed, completed, consumer_asked, consumer_made, consumer_told, infos_told, made_again, message_by, message_told, names_told, page_of, published, purged, quietly, refused, settled, settled_state, stream_told, told_of, with_message, without_messages}
use Rattle.js_model.specs.Refusals.{consumer_absent, consumer_exists, first_refusal, no_consumer, no_message, other_config, retention_cannot_change}
use Rattle.js_model.specs.Retention.{kept}
use Rattle.js_model.specs.Streams.{by_name}
use Rattle.js_model.specs.Trim.{trim}
use Rattle.js_model.specs.Verdict.{verdict}
use Rattle.js_model.proofs.Named.{some_is, none_some}
use Rattle.stream_state.specs.Answering.{Answers}
use Rattle.place_engine.specs.Shown.{IsShown}
use Rattle.memory_place.specs.Answers.{Acts, ActsQuietly, Gives}

-- ---- answers

-- an answer that leaves it as it is
pub quiet : (s : Stream) (answer : Answer) (reply : Reply) → answer ≡ quietly reply s → ActsQuietly answer reply s
quiet s answer reply is outs = record {
  reply_is = sym (ap (λ (a : Answer). a.reply) is);
  outs_are = sym (append-nil outs) ∙ ap (λ (a : Answer). outs ++ a.outs) (sym is);
  leaves = sym (ap (λ (a : Answer). settled_state a.state) is);
}

-- one that leaves another stream, of which the same is kept
pub quiet_on : (s new : Stream) (answer : Answer) (reply : Reply) → answer ≡ quietly reply s → settled new ≡ settled s → ActsQuietly answer reply new
quiet_on s new answer reply is same outs = record {
  reply_is = sym (ap (λ (a : Answer). a.reply) is);
  outs_are = sym (append-nil outs) ∙ ap (λ (a : Answer). outs ++ a.outs) (sym is);
  leaves = ap Live same ∙ sym (ap (λ (a : Answer). settled_state a.state) is);
}

pub acts_as : (answer other : Answer) (reply : Reply) (new : Stream) → answer ≡ other → ActsQuietly other reply new → ActsQuietly answer reply new
acts_as answer other reply new is h = subst (λ (a : Answer). ActsQuietly a reply new) (sym is) h

pub acts_of : (answer : Answer) (told : Reply) (outs_old outs_new : List Out) (new : Stream) → Answers answer told outs_old outs_new new → Acts answer told outs_old outs_new new
acts_of answer told outs_old outs_new new h = record { reply_is = h.reply; outs_are = h.outs; leaves = sym (ap settled_state h.state) }

pub told_shown : (answer : Answer) (told : Reply) (outs_old outs_new : List Out) (new : Stream) → Answers answer told outs_old outs_new new → IsShown answer.reply → IsShown told
told_shown answer told outs_old outs_new new h shown = subst IsShown (sym h.reply) shown

-- once the limits and the retention have let messages go
pub answered_by : (answer : Answer) (reply : Reply) (outs_old outs_new : List Out) (mid new : Stream) → Acts answer reply outs_old outs_new mid → new ≡ settled mid
    → Gives (completed [] answer) reply outs_old outs_new (Live new)
answered_by answer reply outs_old outs_new mid new h is = record { reply_is = h.reply_is; outs_are = h.outs_are; state_is = ap Live is ∙ h.leaves }

-- ---- what is kept

-- of what the limits keep the same is kept
pub settled_trimmed : (x y : Stream) → y ≡ trim x → trim y ≡ y → settled y ≡ settled x
settled_trimmed x y is same = ap kept (same ∙ is)

-- what the retention has let go of
pub record Released (old new : Stream) : Type 0 where
  pub value : new ≡ settled old
  pub again : settled new ≡ new

pub released_by : (x new : Stream) → new ≡ settled x → kept new ≡ new → trim new ≡ new → Released x new
released_by x new value again same = record { value = value; again = ap kept same ∙ again }

-- the configuration stays
pub settled_trim_config : (s : Stream) → (settled (trim s)).config ≡ s.config
unfolding kept trim
settled_trim_config s = refl

released_same : (old new : Stream) → Released old new → settled new ≡ settled old
released_same old new h = h.again ∙ h.value

-- ---- the stream

pub shows : (old new : Stream) (info : StreamInfo) → Released old new → info ≡ stream_info new → ActsQuietly (stream_told old) (StreamTold info) new
shows old new info h is =
    quiet_on old new (stream_told old) (StreamTold info) (ap (λ (i : StreamInfo). quietly (StreamTold i) old) (ap stream_info (sym h.value) ∙ sym is)) (released_same old new h)

pub made_same : (s : Stream) (config : StreamConfig) → same_stream_config config s.config ≡ true → made_again s config ≡ stream_told s
made_same s config same = ap (λ (b : Bool). if b then stream_told s else refused other_config s) same

pub made_other : (s : Stream) (config : StreamConfig) → same_stream_config config s.config ≡ false → made_again s config ≡ refused other_config s
made_other s config other = ap (λ (b : Bool). if b then stream_told s else refused other_config s) other

pub changed_same : (s : Stream) (config : StreamConfig) → same_retention config.retention s.config.retention ≡ true → changed s config true ≡ stream_told (record s { config = config })
changed_same s config same = ap (λ (b : Bool). if b then stream_told (record s { config = config }) else refused retention_cannot_change s) same

-- what is let go of what the limits keep
pub released_trimmed : (x y new : Stream) → y ≡ trim x → trim y ≡ y → Released y new → Released x new
released_trimmed x y new is same h = record { value = h.value ∙ settled_trimmed x y is same; again = h.again }

-- ---- messages

pub publish_stored : (s new : Stream) (p : Publish) (v : Verdict) (n : ℕ) → verdict s p true ≡ v → v ≡ Take → n ≡ s.last + 1 → new ≡ settled (with_message s p) → settled new ≡ new
    → ActsQuietly (published s p (verdict s p true)) (Published n) new
publish_stored s new p v n said take own is again =
    quiet_on (with_message s p) new (published s p (verdict s p true)) (Published n)
    (ap (published s p) (said ∙ take) ∙ ap (λ (k : ℕ). quietly (Published k) (with_message s p)) (sym own))
    (again ∙ is)

pub publish_repeated : (s : Stream) (p : Publish) (n : ℕ) → verdict s p true ≡ TakenBefore n → ActsQuietly (published s p (verdict s p true)) (Duplicate n) s
publish_repeated s p n said = quiet s (published s p (verdict s p true)) (Duplicate n) (ap (published s p) said)

pub publish_refused : (s : Stream) (p : Publish) (e : ApiError) → verdict s p true ≡ RefusedBy e → ActsQuietly (published s p (verdict s p true)) (Refused e) s
publish_refused s p e said = quiet s (published s p (verdict s p true)) (Refused e) (ap (published s p) said)

pub purges : (s new : Stream) (gone : List Message) (n : ℕ) → n ≡ length gone → new ≡ without_messages s gone → ActsQuietly (purged s gone) (Purged n) new
purges s new gone n number is = acts_as (purged s gone) (quietly (Purged n) new) (Purged n) new (ap (λ (k : ℕ). quietly (Purged k) (without_messages s gone)) (sym number) ∙ ap (quietly (Purged n)) (sym is)) (quiet new (quietly (Purged n) new) (Purged n) refl)

pub reads : (s : Stream) (by : GetBy) (m : Message) → Some m ≡ message_by s by → ActsQuietly (message_told s (message_by s by)) (MessageTold m) s
reads s by m found = quiet s (message_told s (message_by s by)) (MessageTold m) (ap (message_told s) (sym found))

pub reads_none : (s : Stream) (by : GetBy) → None ≡ message_by s by → ActsQuietly (message_told s (message_by s by)) (Refused no_message) s
reads_none s by none = quiet s (message_told s (message_by s by)) (Refused no_message) (ap (message_told s) (sym none))

-- ---- consumers

-- one is told, if it is there
told_some : (old new : Stream) (info : ConsumerInfo) (o : Option Consumer) → Some info ≡ option_map (consumer_info new) o → new ≡ settled old → told_of old o ≡ quietly (ConsumerTold info) old
told_some old new info None h is = absurd (none_some (sym h))
told_some old new info (Some c) h is = ap (λ (i : ConsumerInfo). quietly (ConsumerTold i) old) (ap (λ (s : Stream). consumer_info s c) (sym is) ∙ sym (some_is h))

told_none : (old new : Stream) (o : Option Consumer) → None ≡ option_map (consumer_info new) o → told_of old o ≡ refused no_consumer old
told_none old new None h = refl
told_none old new (Some c) h = absurd (none_some h)

pub consumer_shown : (old new : Stream) (name : Bytes) (info : ConsumerInfo) → Released old new → Some info ≡ option_map (consumer_info new) (by_name new.consumers name)
    → ActsQuietly (consumer_told old name) (ConsumerTold info) new
consumer_shown old new name info h found =
    quiet_on old new (consumer_told old name) (ConsumerTold info)
    (ap (λ (s : Stream). told_of old (by_name s.consumers name)) (sym h.value) ∙ told_some old new info (by_name new.consumers name) found h.value)
    (released_same old new h)

pub consumer_not_shown : (old new : Stream) (name : Bytes) → Released old new → None ≡ option_map (consumer_info new) (by_name new.consumers name)
    → ActsQuietly (consumer_told old name) (Refused no_consumer) new
consumer_not_shown old new name h found =
    quiet_on old new (consumer_told old name) (Refused no_consumer)
    (ap (λ (s : Stream). told_of old (by_name s.consumers name)) (sym h.value) ∙ told_none old new (by_name new.consumers name) found)
    (released_same old new h)

pub names_listed : (s : Stream) (offset total : ℕ) (list : List Bytes) → total ≡ length s.consumers → list ≡ page_of 1024 offset (map (λ c. c.name) s.consumers)
    → ActsQuietly (names_told s offset) (Names total list) s
names_listed s offset total list number page =
    quiet s (names_told s offset) (Names total list)
    (ap (λ (n : ℕ). quietly (Names n (page_of 1024 offset (map (λ (c : Consumer). c.name) s.consumers))) s) (sym number) ∙ ap (λ (l : List Bytes). quietly (Names total l) s) (sym page))

pub infos_listed : (old new : Stream) (offset total : ℕ) (list : List ConsumerInfo) → Released old new → total ≡ length old.consumers → list ≡ page_of 256 offset (map (consumer_info new) new.consumers)
    → ActsQuietly (infos_told old offset) (Infos total list) new
infos_listed old new offset total list h number page =
    quiet_on old new (infos_told old offset) (Infos total list)
    (ap (λ (s : Stream). quietly (Infos (length old.consumers) (page_of 256 offset (map (consumer_info s) s.consumers))) old) (sym h.value)
    ∙ ap (λ (n : ℕ). quietly (Infos n (page_of 256 offset (map (consumer_info new) new.consumers))) old) (sym number)
    ∙ ap (λ (l : List ConsumerInfo). quietly (Infos total l) old) (sym page))
    (released_same old new h)

-- ---- a consumer is asked for

module _ (s : Stream) (name : Bytes) (config : ConsumerConfig) (update : Bool) where
  abbrev is_same : Consumer → Bool
  is_same c = same_consumer_config config c.config

  pub asked_new : update ≡ false → None ≡ option_map is_same (by_name s.consumers name)
      → consumer_asked s name config update true (by_name s.consumers name) ≡ consumer_made s name config (first_refusal (making_checks s name config))
  asked_new is found = go (by_name s.consumers name) update is found
    where
      go : (o : Option Consumer) (b : Bool) → b ≡ false → None ≡ option_map is_same o → consumer_asked s name config b true o ≡ consumer_made s name config (first_refusal (making_checks s name config))
      go None true e f = absurd (true≢false e)
      go None false e f = refl
      go (Some c) b e f = absurd (none_some f)

  pub asked_absent : update ≡ true → None ≡ option_map is_same (by_name s.consumers name) → consumer_asked s name config update true (by_name s.consumers name) ≡ refused consumer_absent s
  asked_absent is found = go (by_name s.consumers name) update is found
    where
      go : (o : Option Consumer) (b : Bool) → b ≡ true → None ≡ option_map is_same o → consumer_asked s name config b true o ≡ refused consumer_absent s
      go None true e f = refl
      go None false e f = absurd (true≢false (sym e))
      go (Some c) b e f = absurd (none_some f)

  pub asked_same : Some true ≡ option_map is_same (by_name s.consumers name) → consumer_asked s name config update true (by_name s.consumers name) ≡ consumer_told s name
  asked_same found = go (by_name s.consumers name) update found
    where
      go : (o : Option Consumer) (b : Bool) → Some true ≡ option_map is_same o → consumer_asked s name config b true o ≡ consumer_told s name
      go None b f = absurd (none_some (sym f))
      go (Some c) true f = ap (λ (x : Bool). if x then consumer_told s name else refused (unwrap_or (first_refusal (queue_checks s name config)) consumer_exists) s) (sym (some_is f))
      go (Some c) false f = ap (λ (x : Bool). if x then consumer_told s name else refused (unwrap_or (first_refusal (queue_checks s name config)) consumer_exists) s) (sym (some_is f))

-- it is made
pub consumer_is_made : (s new : Stream) (name : Bytes) (config : ConsumerConfig) (info : ConsumerInfo) → first_refusal (making_checks s name config) ≡ None
    → Released (record s { consumers = with_new s.consumers (new_consumer s name config) }) new → option_map (consumer_info new) (by_name new.consumers name) ≡ Some info
    → ActsQuietly (consumer_made s name config (first_refusal (making_checks s name config))) (ConsumerTold info) new
consumer_is_made s new name config info allowed h found =
    let made : Stream = record s { consumers = with_new s.consumers (new_consumer s name config) } in
    acts_as (consumer_made s name config (first_refusal (making_checks s name config))) (consumer_told made name) (ConsumerTold info) new
    (ap (consumer_made s name config) allowed) (consumer_shown made new name info h (sym found))

-- a rule forbids it
pub consumer_is_refused : (s : Stream) (name : Bytes) (config : ConsumerConfig) (e : ApiError) → first_refusal (making_checks s name config) ≡ Some e
    → ActsQuietly (consumer_made s name config (first_refusal (making_checks s name config))) (Refused e) s
consumer_is_refused s name config e forbidden = quiet s (consumer_made s name config (first_refusal (making_checks s name config))) (Refused e) (ap (consumer_made s name config) forbidden)

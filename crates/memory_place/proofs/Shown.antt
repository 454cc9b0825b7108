-- What replies show.
use Rattle.std.proofs.Common.{◌≡◌, ◌≤◌, ℕ, Bool, true, false, cond, if◌then◌else◌, List, [], ◌∷◌, Option, Some, None, IfSome, IsTrue, IsUtf8, drop, filter, length, map, refl, sym, subst, arith}
use Rattle.std.specs.Prelude.{All, codes, option_map, unwrap_or}
use Rattle.std.specs.Str.{is_utf8, chars}
use lib.Utf8.{encode}
use Rattle.std.proofs.lemmas.List.Elements.{All-drop, All-map, All-take, All-weaker}
use Rattle.std.proofs.lemmas.Str.{IsUtf8-from_is_utf8}
use Rattle.js_base.specs.Bytes.{Bytes, same}
use Rattle.js_base.specs.declared.out.ApiError.{ApiError}
use Rattle.js_model.specs.declared.ack.Ask.{Ask}
use Rattle.js_model.specs.declared.ack.AckKind.{AckKind}
use Rattle.js_model.specs.declared.ack.AckKind.TheVariants.{Ack as Acknowledge, Nak, Wpi, Next, Term}
use Rattle.js_model.specs.declared.consumer_config.ConsumerConfig.{ConsumerConfig}
use Rattle.js_model.specs.declared.stream.Stream.{Stream}
use Rattle.js_model.specs.declared.stream.State.TheVariants.{Live}
use Rattle.js_model.specs.declared.consumer.Consumer.{Consumer}
use Rattle.js_model.specs.declared.reply.ConsumerInfo.{ConsumerInfo}
use Rattle.js_model.specs.declared.reply.Reply.TheVariants.{Silent}
use Rattle.js_model.specs.Acknowledge.{is_no_delivery}
use Rattle.js_model.specs.Configs.{is_stream_config}
use Rattle.js_model.specs.Consumers.{making_checks, queue_checks}
use Rattle.js_model.specs.Counts.{consumer_info}
use Rattle.js_model.specs.Events.{ack_answer, ack_done, ack_reply, consumer_dropped, page_of, pull_answer, quietly}
use Rattle.js_model.specs.Refusals.{consumer_absent, consumer_exists, first_refusal, max_consumers_reached, no_consumer, no_message, no_stream, numbers_used_up, other_config, retention_cannot_change, too_many_subjects, work_queue_rule}
use Rattle.js_model.specs.Streams.{by_name, is_push}
use Rattle.js_model.proofs.ConfigParts.{config_parts}
use Rattle.js_model.proofs.Members.{all_in, found_in}
use Rattle.js_model.proofs.Named.{none_some, some_is}
use Rattle.js_model.proofs.NameTexts.{name_utf8}
use Rattle.stream_state.specs.Settled.{AreProper, IsProperConsumer}
use Rattle.place_engine.specs.Pushes.{pushes_in}
use Rattle.place_engine.specs.Shown.{IsShown, IsSoundConsumerInfo}
use Rattle.memory_place.proofs.VerdictTexts.{first_text, AreTexts}

-- ---- texts of refusals

pub no_stream_utf8 : (e : ApiError) → e ≡ no_stream → IsUtf8 e.text
unfolding is_utf8 chars encode
no_stream_utf8 e is = subst (λ (x : ApiError). IsUtf8 x.text) (sym is) (IsUtf8-from_is_utf8 no_stream.text refl)

pub other_config_utf8 : (e : ApiError) → e ≡ other_config → IsUtf8 e.text
unfolding is_utf8 chars encode
other_config_utf8 e is = subst (λ (x : ApiError). IsUtf8 x.text) (sym is) (IsUtf8-from_is_utf8 other_config.text refl)

pub numbers_used_up_utf8 : (e : ApiError) → e ≡ numbers_used_up → IsUtf8 e.text
unfolding is_utf8 chars encode
numbers_used_up_utf8 e is = subst (λ (x : ApiError). IsUtf8 x.text) (sym is) (IsUtf8-from_is_utf8 numbers_used_up.text refl)

pub no_message_utf8 : (e : ApiError) → e ≡ no_message → IsUtf8 e.text
unfolding is_utf8 chars encode
no_message_utf8 e is = subst (λ (x : ApiError). IsUtf8 x.text) (sym is) (IsUtf8-from_is_utf8 no_message.text refl)

pub no_consumer_utf8 : (e : ApiError) → e ≡ no_consumer → IsUtf8 e.text
unfolding is_utf8 chars encode
no_consumer_utf8 e is = subst (λ (x : ApiError). IsUtf8 x.text) (sym is) (IsUtf8-from_is_utf8 no_consumer.text refl)

pub consumer_absent_utf8 : (e : ApiError) → e ≡ consumer_absent → IsUtf8 e.text
unfolding is_utf8 chars encode
consumer_absent_utf8 e is = subst (λ (x : ApiError). IsUtf8 x.text) (sym is) (IsUtf8-from_is_utf8 consumer_absent.text refl)

pub retention_cannot_change_utf8 : (e : ApiError) → e ≡ retention_cannot_change → IsUtf8 e.text
unfolding is_utf8 chars encode
retention_cannot_change_utf8 e is = subst (λ (x : ApiError). IsUtf8 x.text) (sym is) (IsUtf8-from_is_utf8 retention_cannot_change.text refl)

-- ---- a consumer's refusals

exists_text : IsUtf8 consumer_exists.text
unfolding is_utf8 chars encode
exists_text = IsUtf8-from_is_utf8 consumer_exists.text refl

ack_policy_text : IsUtf8 (work_queue_rule (codes "ack_policy")).text
unfolding is_utf8 chars encode
ack_policy_text = IsUtf8-from_is_utf8 (work_queue_rule (codes "ack_policy")).text refl

deliver_policy_text : IsUtf8 (work_queue_rule (codes "deliver_policy")).text
unfolding is_utf8 chars encode
deliver_policy_text = IsUtf8-from_is_utf8 (work_queue_rule (codes "deliver_policy")).text refl

filter_subject_text : IsUtf8 (work_queue_rule (codes "filter_subject")).text
unfolding is_utf8 chars encode
filter_subject_text = IsUtf8-from_is_utf8 (work_queue_rule (codes "filter_subject")).text refl

too_many_subjects_text : IsUtf8 too_many_subjects.text
unfolding is_utf8 chars encode
too_many_subjects_text = IsUtf8-from_is_utf8 too_many_subjects.text refl

max_consumers_text : IsUtf8 max_consumers_reached.text
unfolding is_utf8 chars encode
max_consumers_text = IsUtf8-from_is_utf8 max_consumers_reached.text refl

queue_texts : (s : Stream) (name : Bytes) (config : ConsumerConfig) → AreTexts (queue_checks s name config)
queue_texts s name config = (ack_policy_text, (deliver_policy_text, (filter_subject_text, tt)))

making_texts : (s : Stream) (name : Bytes) (config : ConsumerConfig) → AreTexts (making_checks s name config)
making_texts s name config = (ack_policy_text, (deliver_policy_text, (filter_subject_text, (too_many_subjects_text, (max_consumers_text, tt)))))

-- the rule that forbids it
pub forbidden_utf8 : (s : Stream) (name : Bytes) (config : ConsumerConfig) (e : ApiError) → first_refusal (making_checks s name config) ≡ Some e → IsUtf8 e.text
forbidden_utf8 s name config e is = subst (λ (o : Option ApiError). IfSome o (λ x. IsUtf8 x.text)) is (first_text (making_checks s name config) (making_texts s name config))

pub other_consumer_utf8 : (s : Stream) (name : Bytes) (config : ConsumerConfig) (e : ApiError) → e ≡ unwrap_or (first_refusal (queue_checks s name config)) consumer_exists → IsUtf8 e.text
other_consumer_utf8 s name config e is = subst (λ (x : ApiError). IsUtf8 x.text) (sym is) (go (first_refusal (queue_checks s name config)) (first_text (queue_checks s name config) (queue_texts s name config)))
  where
    go : (o : Option ApiError) → IfSome o (λ x. IsUtf8 x.text) → IsUtf8 (unwrap_or o consumer_exists).text
    go None h = exists_text
    go (Some x) h = h

-- ---- names

pub name_shown : (s : Stream) → IsTrue (is_stream_config s.config) → IsUtf8 s.config.name
name_shown s valid = name_utf8 s.config.name (config_parts s.config valid).name

-- ---- consumers

info_sound : (s : Stream) (c : Consumer) → IsTrue (is_stream_config s.config) → IsProperConsumer c → IsSoundConsumerInfo (consumer_info s c)
info_sound s c valid h = record { config = h.config; name = name_utf8 c.name h.name; stream = name_shown s valid }

pub consumer_sound : (s : Stream) (name : Bytes) (info : ConsumerInfo) → IsTrue (is_stream_config s.config) → AreProper s.consumers → Some info ≡ option_map (consumer_info s) (by_name s.consumers name)
    → IsSoundConsumerInfo info
consumer_sound s name info valid h e = go (by_name s.consumers name) refl e
  where
    go : (o : Option Consumer) → by_name s.consumers name ≡ o → Some info ≡ option_map (consumer_info s) o → IsSoundConsumerInfo info
    go None f k = absurd (none_some (sym k))
    go (Some c) f k =
        subst IsSoundConsumerInfo (sym (some_is k)) (info_sound s c valid (all_in IsProperConsumer s.consumers h.each (found_in (λ d. same d.name name) c s.consumers f).0))

pub names_sound : (s : Stream) (offset : ℕ) (list : List Bytes) → AreProper s.consumers → list ≡ page_of 1024 offset (map (λ c. c.name) s.consumers) → All IsUtf8 list
names_sound s offset list h is =
    subst (All IsUtf8) (sym is)
    (All-take IsUtf8 1024 (drop offset (map (λ (c : Consumer). c.name) s.consumers))
    (All-drop IsUtf8 offset (map (λ (c : Consumer). c.name) s.consumers)
    (All-map IsUtf8 (λ (c : Consumer). c.name) s.consumers (All-weaker IsProperConsumer (λ (c : Consumer). IsUtf8 c.name) (λ c p. name_utf8 c.name p.name) s.consumers h.each))))

pub infos_sound : (s : Stream) (offset : ℕ) (list : List ConsumerInfo) → IsTrue (is_stream_config s.config) → AreProper s.consumers → list ≡ page_of 256 offset (map (consumer_info s) s.consumers) → All IsSoundConsumerInfo list
infos_sound s offset list valid h is =
    subst (All IsSoundConsumerInfo) (sym is)
    (All-take IsSoundConsumerInfo 256 (drop offset (map (consumer_info s) s.consumers))
    (All-drop IsSoundConsumerInfo offset (map (consumer_info s) s.consumers)
    (All-map IsSoundConsumerInfo (consumer_info s) s.consumers (All-weaker IsProperConsumer (λ (c : Consumer). IsSoundConsumerInfo (consumer_info s c)) (λ c p. info_sound s c valid p) s.consumers h.each))))

-- ---- replies of calls on consumers

pub dropped_shown : (s : Stream) (o : Option Consumer) → IsShown (consumer_dropped s o).reply
dropped_shown s None = no_consumer_utf8 no_consumer refl
dropped_shown s (Some c) = tt

pub pulled_shown : (s : Stream) (reply : Option Bytes) (ask : Option Ask) (o : Option Consumer) → IsShown (pull_answer s reply ask o).reply
pulled_shown s reply ask None = tt
pulled_shown s reply ask (Some c) = tt

pub acked_shown : (s : Stream) (reply : Option Bytes) (n : ℕ) (kind : AckKind) (o : Option Consumer) → IsShown (ack_answer s reply n kind o).reply
acked_shown s reply n kind None = tt
acked_shown s reply n kind (Some c) = either (is_no_delivery c n) kind
  where
    of : (k : AckKind) → IsShown (ack_reply k)
    of Acknowledge = tt
    of (Nak delay) = tt
    of Wpi = tt
    of (Next ask) = tt
    of Term = tt

    either : (b : Bool) (k : AckKind) → IsShown (if b then quietly Silent s else ack_done s reply n k c).reply
    either true k = tt
    either false k = of k

-- ---- push consumers

pub few_pushes : (s : Stream) → AreProper s.consumers → length (pushes_in (Live s)) ≤ 256
few_pushes s h = let l : length (filter is_push s.consumers) ≤ length s.consumers = shorter s.consumers in omega (arith, l, h.few)
  where
    shorter : (ds : List Consumer) → length (filter is_push ds) ≤ length ds
    shorter [] = omega arith
    shorter (d ∷ ds) = go (is_push d) (shorter ds)
      where
        go : (b : Bool) → length (filter is_push ds) ≤ length ds → length (cond b (d ∷ filter is_push ds) (filter is_push ds)) ≤ length (d ∷ ds)
        go true l = omega (arith, l)
        go false l = omega (arith, l)

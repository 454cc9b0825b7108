-- Where there is room, nothing is refused for want of it.
use Rattle.std.proofs.Common.{◌≡◌, ◌≢◌, ◌⊎◌, inl, inr, ◌∙◌, ℕ, ◌+◌, ◌^◌, Bool, true, false, cond, List, [], ◌∷◌, refl, sym, ap, subst}
use Rattle.std.specs.Prelude.{◌==◌, Option, Some, None, unwrap_or, ⊤}
use Rattle.std.proofs.lemmas.Bool.{true≢false}
use Rattle.js_base.specs.Bytes.{Bytes}
use Rattle.js_base.specs.declared.out.ApiError.{ApiError}
use Rattle.js_model.specs.declared.ack.Ask.{Ask}
use Rattle.js_model.specs.declared.ack.AckKind.{AckKind}
use Rattle.js_model.specs.declared.ack.AckKind.TheVariants.{Ack as Acknowledge, Nak, Wpi, Next, Term}
use Rattle.js_model.specs.declared.consumer.Consumer.{Consumer}
use Rattle.js_model.specs.declared.consumer_config.ConsumerConfig.{ConsumerConfig}
use Rattle.js_model.specs.declared.event.Event.{Event}
use Rattle.js_model.specs.declared.event.Publish.{Publish}
use Rattle.js_model.specs.declared.event.What.{What}
use Rattle.js_model.specs.declared.event.What.TheVariants as asked
use Rattle.js_model.specs.declared.reply.Answer.{Answer}
use Rattle.js_model.specs.declared.reply.Reply.{Reply}
use Rattle.js_model.specs.declared.reply.Reply.TheVariants as replies
use Rattle.js_model.specs.declared.reply.Verdict.{Verdict}
use Rattle.js_model.specs.declared.reply.Verdict.TheVariants.{Take, Duplicate as TakenBefore, Refused as RefusedBy}
use Rattle.js_model.specs.declared.stream.Id.{Id}
use Rattle.js_model.specs.declared.stream.Message.{Message}
use Rattle.js_model.specs.declared.stream.State.{State}
use Rattle.js_model.specs.declared.stream.State.TheVariants.{Vacant, Live}
use Rattle.js_model.specs.declared.stream.Stream.{Stream}
use Rattle.js_model.specs.Acknowledge.{is_no_delivery}
use Rattle.js_model.specs.Advance.{advance}
use Rattle.js_model.specs.Configs.{same_consumer_config, same_retention, same_stream_config}
use Rattle.js_model.specs.Consumers.{making_checks, queue_checks}
use Rattle.js_model.specs.Events.{ack_answer, ack_done, answered, consumer_asked, consumer_dropped, consumer_made, deleted, message_at, message_by, message_told, published, pull_answer, settled, stream_answer, told_of, vacant_answer}
use Rattle.js_model.specs.Refusals.{Check, consumer_exists, first_refusal, no_room}
use Rattle.js_model.specs.Streams.{by_name}
use Rattle.js_model.specs.Verdict.{early_checks, first_of_all, known, late_checks, verdict}

-- another refusal, by its number
IsOther : ApiError → Type 0
IsOther e = (e.err_code == 20016) ≡ false

IfOther : Option ApiError → Type 0
IfOther None = ⊤
IfOther (Some e) = IsOther e

-- no refusal, or another one
IsOtherReply : Reply → Type 0
IsOtherReply (replies.Refused e) = IsOther e
IsOtherReply (replies.Info info) = ⊤
IsOtherReply replies.Done = ⊤
IsOtherReply (replies.Published n) = ⊤
IsOtherReply (replies.Duplicate n) = ⊤
IsOtherReply (replies.Purged n) = ⊤
IsOtherReply (replies.ConsumerInfo info) = ⊤
IsOtherReply (replies.Message m) = ⊤
IsOtherReply (replies.Names total list) = ⊤
IsOtherReply (replies.Infos total list) = ⊤
IsOtherReply replies.Confirmed = ⊤
IsOtherReply replies.Silent = ⊤
IsOtherReply replies.Nobody = ⊤

-- ---- checks

-- a check that passes, or one of another refusal
IsOtherCheck : Check → Type 0
IsOtherCheck check = (check.0 ≡ false) ⊎ IsOther check.1

AreOther : List Check → Type 0
AreOther [] = ⊤
AreOther (check ∷ checks) = IsOtherCheck check × AreOther checks

first_other : (checks : List Check) → AreOther checks → IfOther (first_refusal checks)
unfolding IfOther IsOtherCheck AreOther
first_other [] h = tt
first_other (check ∷ checks) h = go check.0 h.0 (first_other checks h.1)
  where
    go : (b : Bool) → (b ≡ false) ⊎ IsOther check.1 → IfOther (first_refusal checks) → IfOther (cond b (Some check.1) (first_refusal checks))
    go true (inl passes) more = absurd (true≢false passes)
    go true (inr other) more = other
    go false h more = more

early_other : (s : Stream) (p : Publish) → IfOther (first_refusal (early_checks s p))
unfolding AreOther IsOtherCheck IsOther
early_other s p = first_other (early_checks s p) (inr refl, (inr refl, (inr refl, (inr refl, tt))))

late_other : (s : Stream) (p : Publish) → IfOther (first_refusal (late_checks s p true))
unfolding AreOther IsOtherCheck IsOther
late_other s p =
    first_other (late_checks s p true) (inr refl, (inr refl, (inr refl, (inr refl, (inr refl, (inr refl, (inr refl, (inl refl, tt))))))))

queue_other : (s : Stream) (name : Bytes) (config : ConsumerConfig) → IfOther (first_refusal (queue_checks s name config))
unfolding AreOther IsOtherCheck IsOther
queue_other s name config = first_other (queue_checks s name config) (inr refl, (inr refl, (inr refl, tt)))

making_other : (s : Stream) (name : Bytes) (config : ConsumerConfig) → IfOther (first_refusal (making_checks s name config))
unfolding AreOther IsOtherCheck IsOther
making_other s name config = first_other (making_checks s name config) (inr refl, (inr refl, (inr refl, (inr refl, (inr refl, tt)))))

-- ---- a stream

publish_other : (s : Stream) (p : Publish) → IsOtherReply (published s p (verdict s p true)).reply
unfolding verdict IfOther IsOtherReply
publish_other s p = go (first_refusal (early_checks s p)) (known s p.wants.id) (first_refusal (late_checks s p true)) (early_other s p) (late_other s p)
  where
    go : (early : Option ApiError) (found : Option Id) (late : Option ApiError) → IfOther early → IfOther late → IsOtherReply (published s p (first_of_all early found late)).reply
    go (Some e) found late h k = h
    go None (Some i) late h k = tt
    go None None (Some e) h k = k
    go None None None h k = tt

either_other : (b : Bool) (x y : Answer) → IsOtherReply x.reply → IsOtherReply y.reply → IsOtherReply (cond b x y).reply
either_other true x y h k = h
either_other false x y h k = k

told_other : (s : Stream) (c : Option Consumer) → IsOtherReply (told_of s c).reply
unfolding IsOtherReply IsOther
told_other s None = refl
told_other s (Some c) = tt

message_other : (s : Stream) (m : Option Message) → IsOtherReply (message_told s m).reply
unfolding IsOtherReply IsOther
message_other s None = refl
message_other s (Some m) = tt

delete_other : (s : Stream) (m : Option Message) → IsOtherReply (deleted s m).reply
unfolding IsOtherReply IsOther
delete_other s None = refl
delete_other s (Some m) = tt

drop_other : (s : Stream) (c : Option Consumer) → IsOtherReply (consumer_dropped s c).reply
unfolding IsOtherReply IsOther
drop_other s None = refl
drop_other s (Some c) = tt

pull_other : (s : Stream) (reply : Option Bytes) (ask : Option Ask) (c : Option Consumer) → IsOtherReply (pull_answer s reply ask c).reply
unfolding IsOtherReply
pull_other s reply ask None = tt
pull_other s reply ask (Some c) = tt

ack_other : (s : Stream) (reply : Option Bytes) (n : ℕ) (kind : AckKind) (c : Option Consumer) → IsOtherReply (ack_answer s reply n kind c).reply
unfolding IsOtherReply
ack_other s reply n kind None = tt
ack_other s reply n kind (Some c) = either_other (is_no_delivery c n) _ _ tt (done kind)
  where
    done : (kind : AckKind) → IsOtherReply (ack_done s reply n kind c).reply
    done Acknowledge = tt
    done (Nak delay) = tt
    done Wpi = tt
    done (Next ask) = tt
    done Term = tt

made_other : (s : Stream) (name : Bytes) (config : ConsumerConfig) (e : Option ApiError) → IfOther e → IsOtherReply (consumer_made s name config e).reply
unfolding IfOther IsOtherReply
made_other s name config None h = told_other _ _
made_other s name config (Some e) h = h

asked_other : (s : Stream) (name : Bytes) (config : ConsumerConfig) (update : Bool) (c : Option Consumer) → IsOtherReply (consumer_asked s name config update true c).reply
unfolding IfOther IsOtherReply IsOther
asked_other s name config true None = refl
asked_other s name config false None = made_other s name config (first_refusal (making_checks s name config)) (making_other s name config)
asked_other s name config update (Some c) = either_other (same_consumer_config config c.config) _ _ (told_other s _) (exists (first_refusal (queue_checks s name config)) (queue_other s name config))
  where
    exists : (e : Option ApiError) → IfOther e → IsOther (unwrap_or e consumer_exists)
    exists None h = refl
    exists (Some e) h = h

stream_other : (s : Stream) (what : What) → IsOtherReply (stream_answer s what true).reply
unfolding IsOtherReply IsOther
stream_other s (asked.Make reply config) = either_other (same_stream_config config s.config) _ _ tt refl
stream_other s (asked.Change reply config) = either_other (same_retention config.retention s.config.retention) _ _ tt refl
stream_other s (asked.Publish p) = publish_other s p
stream_other s (asked.Delete reply n) = delete_other s (message_at s n)
stream_other s (asked.MakeConsumer reply name config update) = asked_other s name config update (by_name s.consumers name)
stream_other s (asked.DropConsumer reply name) = drop_other s (by_name s.consumers name)
stream_other s (asked.Ack reply ack) = ack_other s reply ack.seq ack.kind (by_name s.consumers ack.consumer)
stream_other s (asked.Pull reply name ask) = pull_other s reply ask (by_name s.consumers name)
stream_other s (asked.MessageGet reply by) = message_other s (message_by s by)
stream_other s (asked.ConsumerInfo reply name) = told_other s (by_name (settled s).consumers name)
stream_other s _ = tt

-- ---- a place

vacant_other : (i : ℕ) (what : What) (now : ℕ) → IsOtherReply (vacant_answer i what now true).reply
unfolding IsOtherReply IsOther
vacant_other i (asked.Make reply config) now = either_other (i + 1 == 2 ^ 62) _ _ refl tt
vacant_other i asked.Tick now = tt
vacant_other i _ now = refl

never : (e : Reply) → IsOtherReply e → e ≢ replies.Refused no_room
unfolding IsOtherReply IsOther
never e other is = true≢false (subst IsOtherReply is other)

pub with_room : (state : State) (event : Event) (now : ℕ) → (answered state event now true).reply ≢ replies.Refused no_room
unfolding answered
with_room (Vacant i) event now = never _ (vacant_other i event.what now)
with_room (Live s) event now = never _ (stream_other (advance s now) event.what)

-- What is made to be asked of a place is what readers give.
use Rattle.std.proofs.Common.{◌≡◌, ◌≤◌, ◌+◌, ◌-◌, ◌^◌, ℕ, true, false, [], ◌∷◌, length, Option, None, Some, refl, subst, arith, IsTrue}
use Rattle.std.specs.Prelude.{codes, nat_le, IfSome, IsUtf8}
use Rattle.std.specs.Str.{is_utf8, chars}
use Rattle.std.proofs.lemmas.Bool.{and_from, le-leb}
use lib.Utf8.{encode}
use Rattle.js_base.specs.Bytes.{Bytes}
use Rattle.js_model.specs.declared.stream_config.StreamConfig.{StreamConfig}
use Rattle.js_model.specs.declared.stream_config.Discard.TheVariants.{Old}
use Rattle.js_model.specs.declared.stream_config.Retention.{Retention}
use Rattle.js_model.specs.declared.consumer_config.ConsumerConfig.{ConsumerConfig}
use Rattle.js_model.specs.declared.consumer_config.AckPolicy.TheVariants.{Explicit}
use Rattle.js_model.specs.declared.consumer_config.DeliverPolicy.TheVariants.{All}
use Rattle.js_model.specs.declared.ack.Ask.{Ask}
use Rattle.js_model.specs.declared.event.Publish.{Publish}
use Rattle.js_model.specs.declared.event.What.{What}
use Rattle.js_model.specs.declared.event.What.TheVariants as whats
use Rattle.js_model.specs.Configs.{is_consumer_config, is_limit, is_name, is_stream_config}
use Rattle.js_model.specs.Proper.{if_given, is_proper, is_proper_ask, reply_of}
use Rattle.js_model.proofs.Named.{same_self}
use Rattle.js_base.specs.Subjects.{is_subject_text}
use Rattle.place_drive.specs.Asked.{IsAsked}

-- ---- the making of a stream

abbrev orders : Retention → StreamConfig
orders retention = record {
  description = [];
  discard = Old;
  duplicate_window = 120000000000;
  max_age = 0;
  max_bytes = None;
  max_consumers = None;
  max_msg_size = None;
  max_msgs = None;
  max_msgs_per_subject = None;
  name = codes "ORDERS";
  retention = retention;
  subjects = codes "orders.*" ∷ [];
}

orders_is : (retention : Retention) → is_stream_config (orders retention) ≡ true
unfolding is_utf8 chars encode
orders_is retention = refl

pub stream_asked : (retention : Retention) → IsAsked (whats.Make None (orders retention))
stream_asked retention = record { reply = refl; proper = orders_is retention; told = λ publish is. let no : ⊥ = cc in absurd no }

-- ---- the making of a consumer

abbrev worker : Bytes → Option ℕ → Option ℕ → ConsumerConfig
worker name max_deliver max_ack_pending = record {
  ack_policy = Explicit;
  ack_wait = 30000000000;
  deliver_group = [];
  deliver_policy = All;
  deliver_subject = [];
  description = [];
  filter_subject = [];
  idle_heartbeat = 0;
  max_ack_pending = max_ack_pending;
  max_deliver = max_deliver;
  max_waiting = 512;
  name = name;
}

worker_is : (name : Bytes) (often pending : Option ℕ) → is_name name ≡ true → is_limit (2 ^ 62 - 1) often ≡ true → is_limit 65536 pending ≡ true → is_consumer_config (worker name often pending) ≡ true
unfolding is_utf8 chars encode
worker_is name often pending n o p =
    and_from _ _ (and_from _ _ (and_from _ _ (and_from _ _ (and_from _ _ (and_from _ _ (and_from _ _ (and_from _ _ (and_from _ _ (and_from _ _ (and_from _ _ (and_from _ _ (and_from _ _ n refl) refl) refl) refl) o) p) refl) refl) refl) refl) refl) refl) refl

pub consumer_asked : (name : Bytes) (often pending : Option ℕ) → is_name name ≡ true → is_limit (2 ^ 62 - 1) often ≡ true → is_limit 65536 pending ≡ true
    → IsAsked (whats.MakeConsumer None name (worker name often pending) false)
consumer_asked name often pending n o p = record {
  reply = refl;
  proper = and_from _ _ (and_from _ _ n (worker_is name often pending n o p)) (same_self name);
  told = λ publish is. let no : ⊥ = cc in absurd no;
}

-- ---- messages and pulls

abbrev message : Bytes → Publish
message payload = record {
  reply = None;
  subject = codes "orders.a";
  headers = [];
  payload = payload;
  wants = record { bad = None; id = []; stream = None; last = None; subject_last = None; last_id = None };
}

subject_is : is_subject_text (codes "orders.a") ≡ true
unfolding is_utf8 chars encode
subject_is = refl

pub publish_asked : (payload : Bytes) → length payload ≤ 100 → IsAsked (whats.Publish (message payload))
publish_asked payload small = record {
  reply = refl;
  proper = and_from _ _ (and_from _ _ (and_from _ _ (and_from _ _ subject_is refl) (le-leb (0 + length payload) 1048576 (omega (arith, small)))) refl) refl;
  told = told;
}
  where
    told : (publish : Publish) → whats.Publish (message payload) ≡ whats.Publish publish → IfSome publish.wants.bad IsUtf8
    told publish is = let same : message payload ≡ publish = cc in subst (λ (p : Publish). IfSome p.wants.bad IsUtf8) same tt

inbox_is : is_subject_text (codes "_P") ≡ true
unfolding is_utf8 chars encode
inbox_is = refl

pub pull_asked : (name : Bytes) (ask : Ask) → is_name name ≡ true → is_proper_ask ask ≡ true → IsAsked (whats.Pull (Some (codes "_P")) name (Some ask))
pull_asked name ask n a = record { reply = inbox_is; proper = and_from _ _ n a; told = λ publish is. let no : ⊥ = cc in absurd no }

-- ---- an event

-- for the incarnation that a place keeps
pub event_proper : (incarnation : ℕ) (what : What) → incarnation ≤ 2 ^ 62 → IsAsked what → IsTrue (is_proper (record { incarnation = incarnation; what = what }))
event_proper incarnation what small asked =
    and_from _ _ (and_from (nat_le incarnation (2 ^ 62)) (if_given is_subject_text (reply_of what)) (le-leb incarnation (2 ^ 62) small) asked.reply) asked.proper

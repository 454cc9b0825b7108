-- What the deeds ask of a place is what readers give.
use Rattle.std.proofs.Common.{◌≡◌, ◌≤◌, ◌^◌, ℕ, true, [], ◌∷◌, None, Some, refl, subst, IsTrue}
use Rattle.std.specs.Prelude.{codes, nat_le, IfSome, IsUtf8}
use Rattle.std.specs.Str.{is_utf8, chars}
use Rattle.std.proofs.lemmas.Bool.{and_from, le-leb}
use lib.Utf8.{encode}
use Rattle.js_base.specs.Bytes.{Bytes}
use Rattle.js_base.specs.Subjects.{is_subject_text}
use Rattle.js_model.specs.declared.stream_config.StreamConfig.{StreamConfig}
use Rattle.js_model.specs.declared.stream_config.Discard.TheVariants.{Old}
use Rattle.js_model.specs.declared.stream_config.Retention.TheVariants.{Limits}
use Rattle.js_model.specs.declared.event.Publish.{Publish}
use Rattle.js_model.specs.declared.event.What.{What}
use Rattle.js_model.specs.declared.event.What.TheVariants as whats
use Rattle.js_model.specs.Configs.{is_stream_config}
use Rattle.js_model.specs.Proper.{if_given, is_proper, is_proper_publish, reply_of}
use Rattle.place_drive.specs.Asked.{IsAsked}

-- ---- the message with an id

abbrev marked : Bytes → Publish
marked id = record {
  reply = None;
  subject = codes "orders.b";
  headers = [];
  payload = codes "with an id";
  wants = record { bad = None; id = id; stream = None; last = None; subject_last = None; last_id = None };
}

marked_is : (id : Bytes) → is_proper_publish (marked id) ≡ true
unfolding is_utf8 chars encode
marked_is id = refl

pub marked_asked : (id : Bytes) → IsAsked (whats.Publish (marked id))
marked_asked id = record { reply = refl; proper = marked_is id; told = told }
  where
    told : (publish : Publish) → whats.Publish (marked id) ≡ whats.Publish publish → IfSome publish.wants.bad IsUtf8
    told publish is = let same : marked id ≡ publish = cc in subst (λ (p : Publish). IfSome p.wants.bad IsUtf8) same tt

-- ---- a stream that keeps one message

abbrev last_alone : StreamConfig
last_alone = record {
  description = [];
  discard = Old;
  duplicate_window = 120000000000;
  max_age = 0;
  max_bytes = None;
  max_consumers = None;
  max_msg_size = None;
  max_msgs = Some 1;
  max_msgs_per_subject = None;
  name = codes "ORDERS";
  retention = Limits;
  subjects = codes "orders.*" ∷ [];
}

last_alone_is : is_stream_config last_alone ≡ true
unfolding is_utf8 chars encode
last_alone_is = refl

pub change_asked : IsAsked (whats.Change None last_alone)
change_asked = record { reply = refl; proper = last_alone_is; told = λ publish is. let no : ⊥ = cc in absurd no }

-- ---- a purge

pub purge_asked : IsAsked (whats.Purge None [] None None)
purge_asked = record { reply = refl; proper = refl; told = λ publish is. let no : ⊥ = cc in absurd no }

-- ---- an event

-- for the incarnation that a place keeps
pub event_proper : (incarnation : ℕ) (what : What) → incarnation ≤ 2 ^ 62 → IsAsked what → IsTrue (is_proper (record { incarnation = incarnation; what = what }))
event_proper incarnation what small asked =
    and_from _ _ (and_from (nat_le incarnation (2 ^ 62)) (if_given is_subject_text (reply_of what)) (le-leb incarnation (2 ^ 62) small) asked.reply) asked.proper

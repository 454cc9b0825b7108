-- Configurations of streams and consumers: which ones there are, and which are the same, by JetStream's configuration tables.
use Rattle.std.specs.Prelude.{ℕ, ◌-◌, ◌^◌, nat_lt, nat_le, Bool, true, false, ◌&&◌, ◌||◌, not, ◌==◌, List, [], ◌∷◌, length, Option, Some, None}
use Rattle.std.specs.List.{list_all}
use Rattle.std.specs.Str.{is_utf8}
use Rattle.js_base.specs.Bytes.{Bytes, is_empty, same}
use Rattle.js_base.specs.ServerSubjects.{is_own}
use Rattle.js_base.specs.Subjects.{is_pattern_text, is_subject_text}
pub use Rattle.js_base.specs.Subjects.{is_stream_subject}
use Rattle.js_base.specs.Names.{is_name_byte}
use Rattle.js_model.specs.declared.stream_config.Retention.{Retention}
use Rattle.js_model.specs.declared.stream_config.Retention.TheVariants.{Limits, Interest, WorkQueue}
use Rattle.js_model.specs.declared.stream_config.Discard.{Discard}
use Rattle.js_model.specs.declared.stream_config.Discard.TheVariants.{Old, New as DiscardNew}
use Rattle.js_model.specs.declared.stream_config.StreamConfig.{StreamConfig}
use Rattle.js_model.specs.declared.consumer_config.AckPolicy.{AckPolicy}
use Rattle.js_model.specs.declared.consumer_config.AckPolicy.TheVariants.{None as NoAck, All as AckAll, Explicit}
use Rattle.js_model.specs.declared.consumer_config.DeliverPolicy.{DeliverPolicy}
use Rattle.js_model.specs.declared.consumer_config.DeliverPolicy.TheVariants.{All as FromAll, Last as FromLast, New as FromNew, ByStartSequence, ByStartTime, LastPerSubject}
use Rattle.js_model.specs.declared.consumer_config.ConsumerConfig.{ConsumerConfig}

-- ---- whether two are the same

abbrev pub same_number : Option ℕ → Option ℕ → Bool
same_number None None = true
same_number None (Some n) = false
same_number (Some m) None = false
same_number (Some m) (Some n) = m == n

abbrev pub same_texts : List Bytes → List Bytes → Bool
same_texts [] [] = true
same_texts [] (_ ∷ _) = false
same_texts (_ ∷ _) [] = false
same_texts (a ∷ more) (b ∷ others) = same a b && same_texts more others

abbrev pub same_retention : Retention → Retention → Bool
same_retention Limits Limits = true
same_retention Interest Interest = true
same_retention WorkQueue WorkQueue = true
same_retention _ _ = false

abbrev pub same_discard : Discard → Discard → Bool
same_discard Old Old = true
same_discard DiscardNew DiscardNew = true
same_discard _ _ = false

abbrev pub same_ack_policy : AckPolicy → AckPolicy → Bool
same_ack_policy NoAck NoAck = true
same_ack_policy AckAll AckAll = true
same_ack_policy Explicit Explicit = true
same_ack_policy _ _ = false

abbrev pub same_deliver_policy : DeliverPolicy → DeliverPolicy → Bool
same_deliver_policy FromAll FromAll = true
same_deliver_policy FromLast FromLast = true
same_deliver_policy FromNew FromNew = true
same_deliver_policy (ByStartSequence m) (ByStartSequence n) = m == n
same_deliver_policy (ByStartTime at) (ByStartTime other) = at == other
same_deliver_policy LastPerSubject LastPerSubject = true
same_deliver_policy _ _ = false

abbrev pub same_stream_config : StreamConfig → StreamConfig → Bool
same_stream_config a b =
    same a.name b.name && same a.description b.description && same_texts a.subjects b.subjects
    && same_retention a.retention b.retention && same_discard a.discard b.discard
    && same_number a.max_msgs b.max_msgs && same_number a.max_bytes b.max_bytes
    && same_number a.max_msgs_per_subject b.max_msgs_per_subject && same_number a.max_msg_size b.max_msg_size
    && same_number a.max_consumers b.max_consumers && (a.max_age == b.max_age) && (a.duplicate_window == b.duplicate_window)

abbrev pub same_consumer_config : ConsumerConfig → ConsumerConfig → Bool
same_consumer_config a b =
    same a.name b.name && same a.description b.description && same_deliver_policy a.deliver_policy b.deliver_policy
    && same_ack_policy a.ack_policy b.ack_policy && (a.ack_wait == b.ack_wait)
    && same_number a.max_deliver b.max_deliver && same_number a.max_ack_pending b.max_ack_pending && (a.max_waiting == b.max_waiting)
    && same a.filter_subject b.filter_subject && same a.deliver_subject b.deliver_subject
    && same a.deliver_group b.deliver_group && (a.idle_heartbeat == b.idle_heartbeat)

-- ---- which there are

-- a name of a stream or a consumer
abbrev pub is_name : Bytes → Bool
is_name name = not (is_empty name) && nat_le (length name) 255 && list_all is_name_byte name

-- below 2 ^ 62
abbrev pub is_number : ℕ → Bool
is_number n = nat_lt n (2 ^ 62)

-- no limit, or one from 1 to the greatest
abbrev pub is_limit : ℕ → Option ℕ → Bool
is_limit greatest None = true
is_limit greatest (Some n) = nat_lt 0 n && nat_le n greatest

abbrev pub is_description : Bytes → Bool
is_description text = nat_le (length text) 4096 && is_utf8 text

-- a configuration that the reader of stream configurations gives
abbrev pub is_stream_config : StreamConfig → Bool
is_stream_config c =
    is_name c.name && is_description c.description
    && not (is_empty c.subjects) && nat_le (length c.subjects) 256 && list_all is_stream_subject c.subjects
    && is_limit (2 ^ 62 - 1) c.max_msgs && is_limit (2 ^ 62 - 1) c.max_bytes && is_limit (2 ^ 62 - 1) c.max_msgs_per_subject
    && is_limit (2 ^ 62 - 1) c.max_msg_size && is_limit 256 c.max_consumers
    && is_number c.max_age && is_number c.duplicate_window && nat_lt 0 c.duplicate_window
    && ((c.max_age == 0) || nat_le c.duplicate_window c.max_age)

-- a text that may be a queue name
abbrev pub is_queue_byte : ℕ → Bool
is_queue_byte byte = not (byte == 32) && not (byte == 9) && not (byte == 13) && not (byte == 10)

abbrev pub is_queue_name : Bytes → Bool
is_queue_name text = not (is_empty text) && nat_le (length text) 1024 && list_all is_queue_byte text && is_utf8 text

-- a subject that deliveries may go to
abbrev pub is_deliver_subject : Bytes → Bool
is_deliver_subject text = is_subject_text text && not (is_own text)

abbrev pub is_start : DeliverPolicy → Bool
is_start (ByStartSequence n) = nat_lt 0 n && is_number n
is_start (ByStartTime at) = is_number at
is_start FromAll = true
is_start FromLast = true
is_start FromNew = true
is_start LastPerSubject = true

-- a configuration that the reader of consumer configurations gives. Groups and heartbeats are for push consumers
abbrev pub is_consumer_config : ConsumerConfig → Bool
is_consumer_config c =
    is_name c.name && is_description c.description && is_start c.deliver_policy
    && nat_lt 0 c.ack_wait && is_number c.ack_wait && is_limit (2 ^ 62 - 1) c.max_deliver && is_limit 65536 c.max_ack_pending
    && nat_lt 0 c.max_waiting && nat_le c.max_waiting 65536
    && (is_empty c.filter_subject || is_pattern_text c.filter_subject)
    && (is_empty c.deliver_subject || is_deliver_subject c.deliver_subject)
    && (is_empty c.deliver_group || is_queue_name c.deliver_group && not (is_empty c.deliver_subject))
    && is_number c.idle_heartbeat && ((c.idle_heartbeat == 0) || not (is_empty c.deliver_subject))

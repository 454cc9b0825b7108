-- The entries of the printed configurations, of which none is a float.
use Rattle.std.proofs.Common.{◌≡◌, ℕ, Bool, true, false, List, [], ◌∷◌, Option, Some, None, codes, refl, ap, ◌∙◌, if◌then◌else◌}
use Rattle.serde_json.specs.Data.{string, array, object, Members}
use Rattle.serde_json.specs.Written.{has_float, items_have_float}
use Rattle.js_base.specs.Bytes.{Bytes}
use Rattle.js_json.specs.Building.{count, limit, texts}
use Rattle.js_model.specs.declared.stream_config.StreamConfig.{StreamConfig}
use Rattle.js_model.specs.declared.consumer_config.DeliverPolicy.{DeliverPolicy}
use Rattle.js_model.specs.declared.consumer_config.DeliverPolicy.TheVariants as delivers
use Rattle.js_model.specs.declared.consumer_config.ConsumerConfig.{ConsumerConfig}
use Rattle.stream_config.specs.Printing.{retention_text, discard_text, described, printed as stream_printed}
use Rattle.consumer_config.specs.Printing.{text_shown, sequence_shown, time_shown, entries, object_with, printed as consumer_printed}
use Rattle.config_texts.proofs.Entries.{Entries, OnShown, Each, IsWhole, no_float}

-- ---- a stream's entries

unfoldable pub stream_entries : StreamConfig → Entries
stream_entries c =
    (codes "description", text_shown c.description)
    ∷ (codes "discard", Some (string (discard_text c.discard)))
    ∷ (codes "duplicate_window", Some (count c.duplicate_window))
    ∷ (codes "max_age", Some (count c.max_age))
    ∷ (codes "max_bytes", Some (limit c.max_bytes))
    ∷ (codes "max_consumers", Some (limit c.max_consumers))
    ∷ (codes "max_msg_size", Some (limit c.max_msg_size))
    ∷ (codes "max_msgs", Some (limit c.max_msgs))
    ∷ (codes "max_msgs_per_subject", Some (limit c.max_msgs_per_subject))
    ∷ (codes "name", Some (string c.name))
    ∷ (codes "num_replicas", Some (count 1))
    ∷ (codes "retention", Some (string (retention_text c.retention)))
    ∷ (codes "storage", Some (string (codes "file")))
    ∷ (codes "subjects", Some (array (texts c.subjects)))
    ∷ []

described_is : (text : Bytes) (es : Entries) → described text (object_with es) ≡ object_with ((codes "description", text_shown text) ∷ es)
described_is [] es = refl
described_is (byte ∷ more) es = refl

pub stream_members : (c : StreamConfig) → stream_printed c ≡ object_with (stream_entries c)
unfolding stream_printed stream_entries
stream_members c = described_is c.description _

-- ---- none is a float

whole_text : (text : Bytes) → OnShown IsWhole (text_shown text)
whole_text [] = tt
whole_text (byte ∷ more) = refl

whole_limit : (n : Option ℕ) → IsWhole (limit n)
whole_limit None = refl
whole_limit (Some n) = refl

whole_number_if : (is_0 : Bool) (n : ℕ) → OnShown IsWhole (if is_0 then None else Some (count n))
whole_number_if true n = tt
whole_number_if false n = refl

whole_items : (list : List Bytes) → items_have_float (texts list) ≡ false
whole_items [] = refl
whole_items (text ∷ more) = whole_items more

whole_sequence : (policy : DeliverPolicy) → OnShown IsWhole (sequence_shown policy)
whole_sequence delivers.All = tt
whole_sequence delivers.Last = tt
whole_sequence delivers.New = tt
whole_sequence (delivers.ByStartSequence seq) = refl
whole_sequence (delivers.ByStartTime at) = tt
whole_sequence delivers.LastPerSubject = tt

whole_time : (policy : DeliverPolicy) → OnShown IsWhole (time_shown policy)
whole_time delivers.All = tt
whole_time delivers.Last = tt
whole_time delivers.New = tt
whole_time (delivers.ByStartSequence seq) = tt
whole_time (delivers.ByStartTime at) = refl
whole_time delivers.LastPerSubject = tt

stream_each : (c : StreamConfig) → Each IsWhole (stream_entries c)
unfolding stream_entries
stream_each c = (
  whole_text c.description,
  (refl, (refl, (refl, (whole_limit c.max_bytes, (whole_limit c.max_consumers, (whole_limit c.max_msg_size, (whole_limit c.max_msgs, (whole_limit c.max_msgs_per_subject, (refl, (refl, (refl, (refl, (whole_items c.subjects, tt))))))))))))),
)

consumer_each : (c : ConsumerConfig) → Each IsWhole (entries c)
consumer_each c = (
  refl,
  (refl, (whole_text c.deliver_group, (refl, (whole_text c.deliver_subject, (whole_text c.description, (refl, (whole_text c.filter_subject, (whole_number_if _ c.idle_heartbeat, (whole_limit c.max_ack_pending, (whole_limit c.max_deliver, (refl, (refl, (whole_sequence c.deliver_policy, (whole_time c.deliver_policy, (refl, tt))))))))))))))),
)

pub stream_whole : (c : StreamConfig) → has_float (object (stream_printed c)) ≡ false
stream_whole c = ap (λ (ms : Members). has_float (object ms)) (stream_members c) ∙ no_float (stream_entries c) (stream_each c)

pub consumer_whole : (c : ConsumerConfig) → has_float (object (consumer_printed c)) ≡ false
unfolding consumer_printed
consumer_whole c = no_float (entries c) (consumer_each c)

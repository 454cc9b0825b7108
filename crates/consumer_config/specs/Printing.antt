-- How a consumer's configuration is printed, by JetStream's consumer configuration: its JSON object, whose keys ascend. No limit is -1; an empty text, a
-- heartbeat of 0 and a start that the policy does not use are not shown.
use Rattle.std.specs.Prelude.{ℕ, ◌==◌, List, [], ◌∷◌, Option, Some, None, codes, IsUtf8, if◌then◌else◌}
use Rattle.serde_json.specs.Data.{Data, string, Members, no_members, member, put}
use Rattle.js_base.specs.Bytes.{Bytes}
use Rattle.js_json.specs.Building.{count, limit}
use Rattle.js_json.specs.Times.{time_text}
use Rattle.js_model.specs.declared.consumer_config.AckPolicy.{AckPolicy}
use Rattle.js_model.specs.declared.consumer_config.AckPolicy.TheVariants as acks
use Rattle.js_model.specs.declared.consumer_config.DeliverPolicy.{DeliverPolicy}
use Rattle.js_model.specs.declared.consumer_config.DeliverPolicy.TheVariants as delivers
use Rattle.js_model.specs.declared.consumer_config.ConsumerConfig.{ConsumerConfig}

abbrev pub ack_policy_text : AckPolicy → Bytes
ack_policy_text acks.None = codes "none"
ack_policy_text acks.All = codes "all"
ack_policy_text acks.Explicit = codes "explicit"

abbrev pub deliver_policy_text : DeliverPolicy → Bytes
deliver_policy_text delivers.All = codes "all"
deliver_policy_text delivers.Last = codes "last"
deliver_policy_text delivers.New = codes "new"
deliver_policy_text (delivers.ByStartSequence seq) = codes "by_start_sequence"
deliver_policy_text (delivers.ByStartTime at) = codes "by_start_time"
deliver_policy_text delivers.LastPerSubject = codes "last_per_subject"

-- ---- what is shown of some fields

abbrev pub text_shown : Bytes → Option Data
text_shown [] = None
text_shown (byte ∷ more) = Some (string (byte ∷ more))

abbrev pub number_shown : ℕ → Option Data
number_shown n = if n == 0 then None else Some (count n)

abbrev pub sequence_shown : DeliverPolicy → Option Data
sequence_shown delivers.All = None
sequence_shown delivers.Last = None
sequence_shown delivers.New = None
sequence_shown (delivers.ByStartSequence seq) = Some (count seq)
sequence_shown (delivers.ByStartTime at) = None
sequence_shown delivers.LastPerSubject = None

abbrev pub time_shown : DeliverPolicy → Option Data
time_shown delivers.All = None
time_shown delivers.Last = None
time_shown delivers.New = None
time_shown (delivers.ByStartSequence seq) = None
time_shown (delivers.ByStartTime at) = Some (string (time_text at))
time_shown delivers.LastPerSubject = None

-- the sequence or the time by which a consumer starts, beside other fields
abbrev pub with_start : DeliverPolicy → Members → Members
with_start delivers.All fields = fields
with_start delivers.Last fields = fields
with_start delivers.New fields = fields
with_start (delivers.ByStartSequence seq) fields = put (codes "opt_start_seq") (count seq) fields
with_start (delivers.ByStartTime at) fields = put (codes "opt_start_time") (string (time_text at)) fields
with_start delivers.LastPerSubject fields = fields

-- ---- the object

-- the fields, each with its value if it is shown
abbrev pub entries : ConsumerConfig → List (Bytes × Option Data)
entries c =
    (codes "ack_policy", Some (string (ack_policy_text c.ack_policy)))
    ∷ (codes "ack_wait", Some (count c.ack_wait))
    ∷ (codes "deliver_group", text_shown c.deliver_group)
    ∷ (codes "deliver_policy", Some (string (deliver_policy_text c.deliver_policy)))
    ∷ (codes "deliver_subject", text_shown c.deliver_subject)
    ∷ (codes "description", text_shown c.description)
    ∷ (codes "durable_name", Some (string c.name))
    ∷ (codes "filter_subject", text_shown c.filter_subject)
    ∷ (codes "idle_heartbeat", number_shown c.idle_heartbeat)
    ∷ (codes "max_ack_pending", Some (limit c.max_ack_pending))
    ∷ (codes "max_deliver", Some (limit c.max_deliver))
    ∷ (codes "max_waiting", Some (count c.max_waiting))
    ∷ (codes "name", Some (string c.name))
    ∷ (codes "opt_start_seq", sequence_shown c.deliver_policy)
    ∷ (codes "opt_start_time", time_shown c.deliver_policy)
    ∷ (codes "replay_policy", Some (string (codes "instant")))
    ∷ []

-- the object with the fields that are shown
abbrev pub object_with : List (Bytes × Option Data) → Members
object_with [] = no_members
object_with ((key, None) ∷ more) = object_with more
object_with ((key, Some value) ∷ more) = member key value (object_with more)

-- the object that is printed
unfoldable pub printed : ConsumerConfig → Members
printed c = object_with (entries c)

-- the texts that are printed are UTF-8
pub record IsPrinted (c : ConsumerConfig) : Type 0 where
  pub deliver_group : IsUtf8 c.deliver_group
  pub deliver_subject : IsUtf8 c.deliver_subject
  pub description : IsUtf8 c.description
  pub filter_subject : IsUtf8 c.filter_subject
  pub name : IsUtf8 c.name

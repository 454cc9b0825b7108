-- Worked examples of configurations of the consumer W, as they are read.
use Rattle.std.specs.Prelude.{◌≡◌, [], Some, None, Result, Ok, Err, codes, refl}
use Rattle.std.specs.Str.{is_utf8, chars}
use Rattle.serde_json.specs.Data.{Members, no_members}
use Rattle.serde_json.proofs.OnLiterals.{serde_json_on_literals}
use Rattle.js_base.specs.Bytes.{Bytes}
use Rattle.js_base.specs.declared.out.ApiError.{ApiError}
use Rattle.js_json.specs.declared.fault.JsonFault.{JsonFault}
use Rattle.js_json.specs.Objects.{object_of}
use Rattle.js_json.specs.Fields.{flag_in, number_in, text_in, time_in, is_number as is_numeral, is_given}
use Rattle.js_model.specs.declared.consumer_config.AckPolicy.TheVariants.{None as NoAck, Explicit}
use Rattle.js_model.specs.declared.consumer_config.DeliverPolicy.TheVariants.{All as FromAll, ByStartSequence}
use Rattle.js_model.specs.declared.consumer_config.ConsumerConfig.{ConsumerConfig}
use Rattle.js_model.specs.Refusals.{invalid_value, not_supported, name_mismatch}
use Rattle.consumer_config.specs.Refusals.{start_missing, durable_name_required}
use Rattle.consumer_config.specs.Table.{table}
use Rattle.consumer_config.specs.Reading.{standing, config_in, reading}

abbrev read : Bytes → Result ConsumerConfig ApiError
read body = reading (codes "W") (members_of (object_of body))
  where
    members_of : Result Members JsonFault → Members
    members_of (Ok members) = members
    members_of (Err _) = no_members

-- every default
abbrev usual : ConsumerConfig
usual = record {
  ack_policy = Explicit;
  ack_wait = 30000000000;
  deliver_group = [];
  deliver_policy = FromAll;
  deliver_subject = [];
  description = [];
  filter_subject = [];
  idle_heartbeat = 0;
  max_ack_pending = Some 1000;
  max_deliver = None;
  max_waiting = 512;
  name = codes "W";
}

defaults : read (codes "{\"durable_name\":\"W\"}") ≡ Ok usual
unfolding reading standing table config_in flag_in number_in text_in time_in is_numeral is_given object_of serde_json_on_literals is_utf8 chars
defaults = refl

-- 0 is the usual value, and -1 is no limit
no_limits : read (codes "{\"ack_policy\":\"none\",\"ack_wait\":0,\"durable_name\":\"W\",\"max_ack_pending\":-1,\"max_deliver\":-1,\"max_waiting\":0}")
    ≡ Ok (record usual { ack_policy = NoAck; max_ack_pending = None })
unfolding reading standing table config_in flag_in number_in text_in time_in is_numeral is_given object_of serde_json_on_literals is_utf8 chars
no_limits = refl

from_sequence : read (codes "{\"deliver_policy\":\"by_start_sequence\",\"durable_name\":\"W\",\"opt_start_seq\":7,\"opt_start_time\":7}")
    ≡ Ok (record usual { deliver_policy = ByStartSequence 7 })
unfolding reading standing table config_in flag_in number_in text_in time_in is_numeral is_given object_of serde_json_on_literals is_utf8 chars
from_sequence = refl

-- what a policy needs is missing
no_start : read (codes "{\"deliver_policy\":\"by_start_sequence\"}") ≡ Err (start_missing (codes "opt_start_seq"))
unfolding reading standing table config_in flag_in number_in text_in time_in is_numeral is_given object_of serde_json_on_literals is_utf8 chars
no_start = refl

no_time : read (codes "{\"deliver_policy\":\"by_start_time\",\"durable_name\":\"W\",\"opt_start_seq\":-1}") ≡ Err (start_missing (codes "opt_start_time"))
unfolding reading standing table config_in flag_in number_in text_in time_in is_numeral is_given object_of serde_json_on_literals is_utf8 chars
no_time = refl

start_at_0 : read (codes "{\"deliver_policy\":\"by_start_sequence\",\"durable_name\":\"W\",\"opt_start_seq\":0}") ≡ Err (start_missing (codes "opt_start_seq"))
unfolding reading standing table config_in flag_in number_in text_in time_in is_numeral is_given object_of serde_json_on_literals is_utf8 chars
start_at_0 = refl

no_name : read (codes "{\"durable_name\":\"\",\"name\":\"V\"}") ≡ Err durable_name_required
unfolding reading standing table config_in flag_in number_in text_in time_in is_numeral is_given object_of serde_json_on_literals is_utf8 chars
no_name = refl

other_name : read (codes "{\"durable_name\":\"W\",\"name\":\"V\"}") ≡ Err name_mismatch
unfolding reading standing table config_in flag_in number_in text_in time_in is_numeral is_given object_of serde_json_on_literals is_utf8 chars
other_name = refl

-- a queue name and a heartbeat need a deliver subject; one that is wrong is refused in their place
lone_group : read (codes "{\"deliver_group\":\"q\",\"durable_name\":\"W\"}") ≡ Err (invalid_value (codes "deliver_group"))
unfolding reading standing table config_in flag_in number_in text_in time_in is_numeral is_given object_of serde_json_on_literals is_utf8 chars
lone_group = refl

wrong_subject : read (codes "{\"deliver_group\":\"q\",\"deliver_subject\":[]}") ≡ Err (invalid_value (codes "deliver_subject"))
unfolding reading standing table config_in flag_in number_in text_in time_in is_numeral is_given object_of serde_json_on_literals is_utf8 chars
wrong_subject = refl

lone_heartbeat : read (codes "{\"durable_name\":\"W\",\"idle_heartbeat\":1}") ≡ Err (invalid_value (codes "idle_heartbeat"))
unfolding reading standing table config_in flag_in number_in text_in time_in is_numeral is_given object_of serde_json_on_literals is_utf8 chars
lone_heartbeat = refl

many_pending : read (codes "{\"durable_name\":\"W\",\"max_ack_pending\":65537}") ≡ Err (invalid_value (codes "max_ack_pending"))
unfolding reading standing table config_in flag_in number_in text_in time_in is_numeral is_given object_of serde_json_on_literals is_utf8 chars
many_pending = refl

original : read (codes "{\"replay_policy\":\"original\"}") ≡ Err (not_supported (codes "replay_policy"))
unfolding reading standing table config_in flag_in number_in text_in time_in is_numeral is_given object_of serde_json_on_literals is_utf8 chars
original = refl

fraction : read (codes "{\"inactive_threshold\":1.5}") ≡ Err (not_supported (codes "inactive_threshold"))
unfolding reading standing table config_in flag_in number_in text_in time_in is_numeral is_given object_of serde_json_on_literals is_utf8 chars
fraction = refl

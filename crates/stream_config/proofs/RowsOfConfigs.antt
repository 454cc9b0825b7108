-- Worked examples of configurations of the stream S, as they are read.
use Rattle.std.specs.Prelude.{◌≡◌, [], ◌∷◌, Some, None, Result, Ok, Err, codes, refl}
use Rattle.std.specs.Str.{is_utf8, chars}
use Rattle.serde_json.specs.Data.{Members, no_members}
use Rattle.serde_json.proofs.OnLiterals.{serde_json_on_literals}
use Rattle.js_base.specs.Bytes.{Bytes}
use Rattle.js_base.specs.declared.out.ApiError.{ApiError}
use Rattle.js_json.specs.declared.fault.JsonFault.{JsonFault}
use Rattle.js_json.specs.Objects.{object_of}
use Rattle.js_json.specs.Fields.{flag_in, number_in, text_in, texts_in, part_in, is_number as is_numeral, is_given}
use Rattle.js_model.specs.declared.stream_config.Retention.TheVariants.{Limits, Interest, WorkQueue}
use Rattle.js_model.specs.declared.stream_config.Discard.TheVariants.{New as DiscardNew}
use Rattle.js_model.specs.declared.stream_config.StreamConfig.{StreamConfig}
use Rattle.js_model.specs.Refusals.{invalid_value, not_supported}
use Rattle.stream_config.specs.Defaults.{default_config}
use Rattle.stream_config.specs.Table.{table}
use Rattle.stream_config.specs.Reading.{standing, config_in, reading}

abbrev read : Bytes → Result StreamConfig ApiError
read body = reading (codes "S") (members_of (object_of body))
  where
    members_of : Result Members JsonFault → Members
    members_of (Ok members) = members
    members_of (Err _) = no_members

-- each limit
limits : read (codes "{\"discard\":\"new\",\"max_age\":3600000000000,\"max_bytes\":1000,\"max_msg_size\":10,\"max_msgs\":5,\"max_msgs_per_subject\":1}")
    ≡ Ok (record {
      description = [];
      discard = DiscardNew;
      duplicate_window = 120000000000;
      max_age = 3600000000000;
      max_bytes = Some 1000;
      max_consumers = None;
      max_msg_size = Some 10;
      max_msgs = Some 5;
      max_msgs_per_subject = Some 1;
      name = codes "S";
      retention = Limits;
      subjects = codes "S" ∷ [];
    })
unfolding reading standing table config_in flag_in number_in text_in texts_in part_in is_numeral is_given object_of serde_json_on_literals is_utf8 chars
limits = refl

-- -1 and 0 are no limit
no_limits : read (codes "{\"discard\":\"old\",\"max_age\":0,\"max_bytes\":-1,\"max_msgs\":0,\"retention\":\"limits\"}") ≡ Ok (default_config (codes "S") (codes "S"))
unfolding reading standing table config_in default_config flag_in number_in text_in texts_in part_in is_numeral is_given object_of serde_json_on_literals is_utf8 chars
no_limits = refl

-- the window is not longer than the messages stay
short_age : read (codes "{\"max_age\":60000000000}") ≡ Ok (record (default_config (codes "S") (codes "S")) { max_age = 60000000000; duplicate_window = 60000000000 })
unfolding reading standing table config_in default_config flag_in number_in text_in texts_in part_in is_numeral is_given object_of serde_json_on_literals is_utf8 chars
short_age = refl

long_window : read (codes "{\"duplicate_window\":60000000001,\"max_age\":60000000000}") ≡ Err (invalid_value (codes "duplicate_window"))
unfolding reading standing table config_in flag_in number_in text_in texts_in part_in is_numeral is_given object_of serde_json_on_literals is_utf8 chars
long_window = refl

-- if the age is itself wrong, the rule between the two counts as kept
wrong_age : read (codes "{\"duplicate_window\":5,\"max_age\":-1}") ≡ Err (invalid_value (codes "max_age"))
unfolding reading standing table config_in flag_in number_in text_in texts_in part_in is_numeral is_given object_of serde_json_on_literals is_utf8 chars
wrong_age = refl

below_no_limit : read (codes "{\"max_msgs\":-2}") ≡ Err (invalid_value (codes "max_msgs"))
unfolding reading standing table config_in flag_in number_in text_in texts_in part_in is_numeral is_given object_of serde_json_on_literals is_utf8 chars
below_no_limit = refl

above_all_limits : read (codes "{\"max_bytes\":4611686018427387904,\"max_msgs\":-2}") ≡ Err (invalid_value (codes "max_bytes"))
unfolding reading standing table config_in flag_in number_in text_in texts_in part_in is_numeral is_given object_of serde_json_on_literals is_utf8 chars
above_all_limits = refl

no_policy : read (codes "{\"discard\":\"none\"}") ≡ Err (invalid_value (codes "discard"))
unfolding reading standing table config_in flag_in number_in text_in texts_in part_in is_numeral is_given object_of serde_json_on_literals is_utf8 chars
no_policy = refl

interest : read (codes "{\"retention\":\"interest\"}") ≡ Ok (record (default_config (codes "S") (codes "S")) { retention = Interest })
unfolding reading standing table config_in default_config flag_in number_in text_in texts_in part_in is_numeral is_given object_of serde_json_on_literals is_utf8 chars
interest = refl

work_queue : read (codes "{\"retention\":\"workqueue\"}") ≡ Ok (record (default_config (codes "S") (codes "S")) { retention = WorkQueue })
unfolding reading standing table config_in default_config flag_in number_in text_in texts_in part_in is_numeral is_given object_of serde_json_on_literals is_utf8 chars
work_queue = refl

no_retention : read (codes "{\"retention\":\"all\"}") ≡ Err (invalid_value (codes "retention"))
unfolding reading standing table config_in flag_in number_in text_in texts_in part_in is_numeral is_given object_of serde_json_on_literals is_utf8 chars
no_retention = refl

-- an expiry of each message is left out
own_expiry : read (codes "{\"allow_msg_ttl\":true}") ≡ Err (not_supported (codes "allow_msg_ttl"))
unfolding reading standing table config_in flag_in number_in text_in texts_in part_in is_numeral is_given object_of serde_json_on_literals is_utf8 chars
own_expiry = refl

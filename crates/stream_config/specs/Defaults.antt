-- The configuration of a stream of which a name and one subject alone are given, by the defaults of JetStream's stream configuration.
use Rattle.std.specs.Prelude.{[], ◌∷◌, None}
use Rattle.js_base.specs.Bytes.{Bytes}
use Rattle.js_model.specs.declared.stream_config.StreamConfig.{StreamConfig}
use Rattle.js_model.specs.declared.stream_config.Retention.TheVariants.{Limits}
use Rattle.js_model.specs.declared.stream_config.Discard.TheVariants.{Old}

-- this name and this one subject, and every default
unfoldable pub default_config : Bytes → Bytes → StreamConfig
default_config name subject = record {
  description = [];
  discard = Old;
  duplicate_window = 120000000000;
  max_age = 0;
  max_bytes = None;
  max_consumers = None;
  max_msg_size = None;
  max_msgs = None;
  max_msgs_per_subject = None;
  name = name;
  retention = Limits;
  subjects = subject ∷ [];
}

-- The texts of configurations, as a volume keeps them: their printed objects, without spaces.
use Rattle.serde_json.specs.Data.{object}
use Rattle.serde_json.specs.Written.{compact_text}
use Rattle.js_base.specs.Bytes.{Bytes}
use Rattle.js_model.specs.declared.stream_config.StreamConfig.{StreamConfig}
use Rattle.js_model.specs.declared.consumer_config.ConsumerConfig.{ConsumerConfig}
use Rattle.stream_config.specs.Printing.{printed as stream_printed}
use Rattle.consumer_config.specs.Printing.{printed as consumer_printed}

unfoldable pub stream_text : StreamConfig → Bytes
stream_text config = compact_text (object (stream_printed config))

unfoldable pub consumer_text : ConsumerConfig → Bytes
consumer_text config = compact_text (object (consumer_printed config))

-- What a text is as the text of a configuration: an object with a name, which is read as the configuration of that name, if the configuration has this
-- very text.
use Rattle.std.specs.Prelude.{codes, Option, Some, None, option_and_then, Result, Ok, Err, if◌then◌else◌}
use Rattle.serde_json.specs.Data.{Members}
use Rattle.js_base.specs.Bytes.{Bytes, same}
use Rattle.js_base.specs.Names.{name_of}
use Rattle.js_json.specs.Fields.{text_in}
use Rattle.js_json.specs.Objects.{object_of}
use Rattle.js_json.specs.declared.fault.JsonFault.{JsonFault}
use Rattle.js_model.specs.declared.stream_config.StreamConfig.{StreamConfig}
use Rattle.js_model.specs.declared.consumer_config.ConsumerConfig.{ConsumerConfig}
use Rattle.stream_config.specs.Reading.{reading as stream_reading}
use Rattle.consumer_config.specs.Reading.{reading as consumer_reading}
use Rattle.config_texts.specs.Texts.{stream_text, consumer_text}

-- what was read, if nothing was refused
abbrev pub allowed : {X E : Type 0} → Result X E → Option X
allowed (Ok x) = Some x
allowed (Err refusal) = None

abbrev pub found : {X : Type 0} → Result (Option X) JsonFault → Option X
found (Ok x) = x
found (Err fault) = None

-- the name that an object says
unfoldable pub name_in : Members → Option Bytes
name_in fields = option_and_then (λ text. allowed (name_of text)) (found (text_in (codes "name") fields))

-- ---- streams

unfoldable pub stream_in : Members → Option StreamConfig
stream_in fields = option_and_then (λ name. allowed (stream_reading name fields)) (name_in fields)

abbrev pub if_stream_text : Bytes → StreamConfig → Option StreamConfig
if_stream_text text config = if same (stream_text config) text then Some config else None

unfoldable pub stream_of : Bytes → Option StreamConfig
stream_of text = option_and_then (if_stream_text text) (option_and_then stream_in (allowed (object_of text)))

-- ---- consumers

unfoldable pub consumer_in : Members → Option ConsumerConfig
consumer_in fields = option_and_then (λ name. allowed (consumer_reading name fields)) (name_in fields)

abbrev pub if_consumer_text : Bytes → ConsumerConfig → Option ConsumerConfig
if_consumer_text text config = if same (consumer_text config) text then Some config else None

unfoldable pub consumer_of : Bytes → Option ConsumerConfig
consumer_of text = option_and_then (if_consumer_text text) (option_and_then consumer_in (allowed (object_of text)))

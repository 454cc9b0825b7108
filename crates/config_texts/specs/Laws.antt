-- The laws of the texts of configurations: a text is read as a configuration exactly if it is that configuration's.
use Rattle.std.specs.Prelude.{◌≡◌, ◌↔◌, IsTrue, Some}
use Rattle.js_base.specs.Bytes.{Bytes}
use Rattle.js_model.specs.Configs.{is_stream_config, is_consumer_config}
use Rattle.js_model.specs.declared.stream_config.StreamConfig.{StreamConfig}
use Rattle.js_model.specs.declared.consumer_config.ConsumerConfig.{ConsumerConfig}
use Rattle.config_texts.specs.Reading.{stream_of, consumer_of}
use Rattle.config_texts.specs.Texts.{stream_text, consumer_text}

-- the text is that of a valid configuration
pub record IsStreamText (text : Bytes) (config : StreamConfig) : Type 0 where
  pub valid : IsTrue (is_stream_config config)
  pub spelled : text ≡ stream_text config

abbrev pub LawStreamText : Type 0
LawStreamText = (text : Bytes) (config : StreamConfig) → (stream_of text ≡ Some config) ↔ IsStreamText text config

-- the text is that of a valid configuration
pub record IsConsumerText (text : Bytes) (config : ConsumerConfig) : Type 0 where
  pub valid : IsTrue (is_consumer_config config)
  pub spelled : text ≡ consumer_text config

abbrev pub LawConsumerText : Type 0
LawConsumerText = (text : Bytes) (config : ConsumerConfig) → (consumer_of text ≡ Some config) ↔ IsConsumerText text config

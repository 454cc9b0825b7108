-- Streams whose limits hold, and their consumers.
use Rattle.std.specs.Prelude.{◌≡◌, ◌≤◌, List, None, All, length, IsTrue}
use Rattle.js_model.specs.declared.stream.Stream.{Stream}
use Rattle.js_model.specs.declared.consumer.Consumer.{Consumer}
use Rattle.js_model.specs.Configs.{is_consumer_config, is_name}
use Rattle.retention.specs.Over.{next_over}
use Rattle.followed_stream.specs.Attended.{IsAttended}
use Rattle.followed_stream.specs.Spans.{IsKeptOutside}
use Rattle.followed_stream.specs.declared.span.Span.{Span}

-- its name and its configuration are ones that readers give
pub record IsProperConsumer (c : Consumer) : Type 0 where
  pub name : IsTrue (is_name c.name)
  pub config : IsTrue (is_consumer_config c.config)

-- the consumers of a stream
pub record AreProper (consumers : List Consumer) : Type 0 where
  pub few : length consumers ≤ 256
  pub each : All IsProperConsumer consumers

-- its limits hold, and its retention keeps the messages outside a span
pub record IsSettled (s : Stream) (loose : Span) : Type 0 where
  pub attended : IsAttended s
  pub proper : AreProper s.consumers
  pub within : next_over s ≡ None
  pub kept : IsKeptOutside loose s

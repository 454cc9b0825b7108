-- What is kept of a stream, this server's own: its ids are in a window, in which they count as long as its configuration says, and none was added later than
-- its last moment.
use Rattle.std.specs.Prelude.{◌≡◌, ℕ, List}
use Rattle.js_model.specs.declared.stream_config.StreamConfig.{StreamConfig}
use Rattle.js_model.specs.declared.stream.Message.{Message}
use Rattle.js_model.specs.declared.consumer.Consumer.{Consumer}
use Rattle.dedup_window.specs.Window.{Window, IsLatest}
use Rattle.effects.specs.declared.durable.Body.{Body}

abbrev pub shown : (made moment last : ℕ) (config : StreamConfig) (messages : List Message) (window : Window) (consumers : List Consumer) → Body
shown made moment last config messages window consumers = record {
  made = made;
  moment = moment;
  last = last;
  config = config;
  messages = messages;
  ids = window.ids;
  consumers = consumers;
}

pub record IsKept (config : StreamConfig) (moment : ℕ) (window : Window) : Type 0 where
  pub counts : window.window ≡ config.duplicate_window
  pub latest : IsLatest moment window.ids

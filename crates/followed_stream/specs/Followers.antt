-- Consumers as a stream keeps them, this server's own: each with the number of messages that are still to be delivered to it.
use Rattle.std.specs.Prelude.{◌≡◌, ℕ, Bool, ◌+◌, ◌-◌, if◌then◌else◌, List, All, filter, length, map}
use Rattle.js_base.specs.Bytes.{Bytes, same}
use Rattle.js_model.specs.declared.stream.Message.{Message}
use Rattle.js_model.specs.declared.stream.Stream.{Stream}
use Rattle.js_model.specs.declared.consumer.Consumer.{Consumer}
use Rattle.js_model.specs.Advance.{consumer_at}
use Rattle.consumer_need.specs.Needs.{awaits}
use Rattle.consumer_state.specs.Forgetting.{forgotten}
use Rattle.followed_stream.specs.Attended.{IsAttended}

pub record Following : Type 0 where
  pub consumer : Consumer
  pub undelivered : ℕ

-- 1 for a message that is still to be delivered to the consumer, and else 0
abbrev pub awaited : Consumer → Bytes → ℕ → ℕ
awaited c subject seq = if awaits c subject seq then 1 else 0

-- after a message was stored
abbrev pub gaining : Bytes → ℕ → Following → Following
gaining subject seq f = record f { undelivered = f.undelivered + awaited f.consumer subject seq }

-- after a message was removed
abbrev pub losing : Bytes → ℕ → Following → Following
losing subject seq f = record { consumer = forgotten seq f.consumer; undelivered = f.undelivered - awaited f.consumer subject seq }

-- after time has passed up to a moment
abbrev pub standing : ℕ → Following → Following
standing now f = record f { consumer = consumer_at now f.consumer }

abbrev pub is_named : Bytes → Following → Bool
is_named name f = same f.consumer.name name

-- the number is that of the messages that are still to be delivered
abbrev pub IsCounted : List Message → Following → Type 0
IsCounted messages f = f.undelivered ≡ length (filter (λ m. awaits f.consumer m.subject m.seq) messages)

-- the stream with these consumers
abbrev pub attended : Stream → List Following → Stream
attended s followers = record s { consumers = map (λ f. f.consumer) followers }

pub record AreFollowed (s : Stream) (followers : List Following) : Type 0 where
  pub attended : IsAttended (attended s followers)
  pub counted : All (IsCounted s.messages) followers

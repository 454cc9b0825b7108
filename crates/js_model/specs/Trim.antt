-- What the limits of a stream keep, by JetStream's max_msgs_per_subject, max_msgs and max_bytes.
use Rattle.std.specs.Prelude.{ℕ, ◌^◌, min, nat_lt, nat_le, if◌then◌else◌, List, [], ◌∷◌, Option, Some, None, unwrap_or, count_by, sum_by}
use Rattle.js_base.specs.Bytes.{same, last_of}
use Rattle.js_model.specs.declared.stream.Message.{Message}
use Rattle.js_model.specs.declared.stream.Stream.{Stream}
use Rattle.js_model.specs.Streams.{only, size}

-- the last n messages of each subject
abbrev pub newest : ℕ → List Message → List Message
newest n [] = []
newest n (m ∷ later) = if nat_lt (count_by (λ x. same x.subject m.subject) later) n then m ∷ newest n later else newest n later

-- the longest end whose sizes are together at most n
abbrev pub fitting : ℕ → List Message → List Message
fitting n [] = []
fitting n (m ∷ later) = if nat_le (sum_by size (m ∷ later)) n then m ∷ later else fitting n later

abbrev pub newest_at : Option ℕ → List Message → List Message
newest_at None messages = messages
newest_at (Some n) messages = newest n messages

abbrev pub fitting_at : Option ℕ → List Message → List Message
fitting_at None messages = messages
fitting_at (Some n) messages = fitting n messages

-- the greatest number of messages: the limit, and never more than 2 ^ 24
abbrev pub max_messages : Stream → ℕ
max_messages s = min (unwrap_or s.config.max_msgs (2 ^ 24)) (2 ^ 24)

-- the stream with what the limit of each subject keeps, with what the limit on messages keeps, and with what the limit on bytes keeps
abbrev pub trim_subjects : Stream → Stream
trim_subjects s = only s (newest_at s.config.max_msgs_per_subject s.messages)

abbrev pub trim_count : Stream → Stream
trim_count s = only s (last_of (max_messages s) s.messages)

abbrev pub trim_bytes : Stream → Stream
trim_bytes s = only s (fitting_at s.config.max_bytes s.messages)

-- the stream with the messages that its limits keep
unfoldable pub trim : Stream → Stream
trim s = trim_bytes (trim_count (trim_subjects s))

-- The message that the limits of a stream drop next, by JetStream's max_msgs_per_subject, max_msgs and max_bytes.
use Rattle.std.specs.Prelude.{◌≡◌, ℕ, nat_lt, Bool, false, ◌||◌, if◌then◌else◌, length, Option, None, option_map, find, count_by, sum_by}
use Rattle.std.specs.Option.{option_or}
use Rattle.js_base.specs.Bytes.{Bytes, same}
use Rattle.js_model.specs.declared.stream.Message.{Message}
use Rattle.js_model.specs.declared.stream.Stream.{Stream}
use Rattle.js_model.specs.Streams.{size, over_limit}
use Rattle.js_model.specs.Trim.{max_messages}
use Rattle.js_model.specs.Counts.{first_message}

-- the stream has more messages of the subject than the limit of each subject allows
abbrev pub is_over_on : Stream → Bytes → Bool
is_over_on s subject = over_limit (count_by (λ m. same m.subject subject) s.messages) s.config.max_msgs_per_subject

-- the stream has more messages than it may have, or more bytes
abbrev pub is_over : Stream → Bool
is_over s = nat_lt (max_messages s) (length s.messages) || over_limit (sum_by size s.messages) s.config.max_bytes

-- the first message whose subject has too many
abbrev pub over_subject : Stream → Option Message
over_subject s = find (λ m. is_over_on s m.subject) s.messages

-- the first message, if the stream has too many, or too many bytes
abbrev pub over_stream : Stream → Option Message
over_stream s = if is_over s then first_message s.messages else None

-- the sequence of the message that goes next, that of a subject first
abbrev pub next_over : Stream → Option ℕ
next_over s = option_map (λ m. m.seq) (option_or (over_subject s) (over_stream s))

-- no other subject has more messages than it may have
pub record IsOverOnlyOn (s : Stream) (subject : Bytes) : Type 0 where
  pub others : (t : Bytes) → same t subject ≡ false → is_over_on s t ≡ false

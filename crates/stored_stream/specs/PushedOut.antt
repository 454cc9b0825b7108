-- Which message the limit of a subject drops for one more, by JetStream's max_msgs_per_subject.
use Rattle.std.specs.Prelude.{ℕ, nat_le, Bool, false, if◌then◌else◌, Option, Some, None, find, count_by}
use Rattle.js_base.specs.Bytes.{Bytes, same}
use Rattle.js_model.specs.declared.stream.Message.{Message}
use Rattle.js_model.specs.declared.stream.Stream.{Stream}

abbrev pub reaches : ℕ → Option ℕ → Bool
reaches n None = false
reaches n (Some limit) = nat_le limit n

-- the first message of the subject, if it has as many as it may have
abbrev pub pushed_out : Stream → Bytes → Option Message
pushed_out s subject =
    if reaches (count_by (λ m. same m.subject subject) s.messages) s.config.max_msgs_per_subject then find (λ m. same m.subject subject) s.messages else None

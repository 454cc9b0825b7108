-- Where a new consumer begins, by JetStream's deliver policies.
use Rattle.std.specs.Prelude.{ℕ, ◌+◌, min, max, nat_le, List, [], filter, Option, Some, None, find}
use Rattle.std.specs.List.{last_or}
use Rattle.js_base.specs.Bytes.{Bytes}
use Rattle.js_model.specs.declared.consumer_config.DeliverPolicy.{DeliverPolicy}
use Rattle.js_model.specs.declared.consumer_config.DeliverPolicy.TheVariants.{All as FromAll, Last as FromLast, New as FromNew, ByStartSequence, ByStartTime, LastPerSubject}
use Rattle.js_model.specs.declared.stream.Message.{Message}
use Rattle.js_model.specs.declared.stream.Stream.{Stream}
use Rattle.js_model.specs.Streams.{passes_filter, first_seq, seqs}
use Rattle.js_model.specs.Trim.{newest}

-- the messages that the filter matches
abbrev pub matching : Bytes → Stream → List Message
matching pattern s = filter (λ m. passes_filter pattern m.subject) s.messages

-- the sequence of a message that was sought, or the next one
abbrev pub seq_or_next : Stream → Option Message → ℕ
seq_or_next s None = s.last + 1
seq_or_next s (Some m) = m.seq

-- the sequences that are picked out: the last matching message of each subject
abbrev pub picks_at : DeliverPolicy → Bytes → Stream → List ℕ
picks_at LastPerSubject pattern s = seqs (newest 1 (matching pattern s))
picks_at FromAll pattern s = []
picks_at FromLast pattern s = []
picks_at FromNew pattern s = []
picks_at (ByStartSequence n) pattern s = []
picks_at (ByStartTime at) pattern s = []

-- the sequence from which on all matching messages are delivered
abbrev pub cursor_at : DeliverPolicy → Bytes → Stream → ℕ
cursor_at FromAll pattern s = first_seq s
cursor_at FromLast pattern s = seq_or_next s (last_or None (matching pattern s))
cursor_at FromNew pattern s = s.last + 1
cursor_at (ByStartSequence n) pattern s = min (max n (first_seq s)) (s.last + 1)
cursor_at (ByStartTime at) pattern s = seq_or_next s (find (λ m. nat_le at m.at) s.messages)
cursor_at LastPerSubject pattern s = s.last + 1

-- Sizes, filters and look-ups of messages and consumers, by JetStream's stream and consumer documentation.
use Rattle.std.specs.Prelude.{ℕ, ◌+◌, nat_lt, Bool, true, false, if◌then◌else◌, ◌||◌, not, ◌==◌, List, [], ◌∷◌, length, map, filter, Option, Some, None, find}
use Rattle.js_base.specs.Bytes.{Bytes, is_empty, same, has}
use Rattle.js_base.specs.Subjects.{tokens, matches}
use Rattle.js_model.specs.declared.stream.Message.{Message}
use Rattle.js_model.specs.declared.stream.Stream.{Stream}
use Rattle.js_model.specs.declared.consumer.Consumer.{Consumer}
use Rattle.js_model.specs.declared.consumer_config.AckPolicy.{AckPolicy}
use Rattle.js_model.specs.declared.consumer_config.AckPolicy.TheVariants.{None as NoAck, All as AckAll, Explicit}

-- the bytes that are sent, and the size that counts against the limits
abbrev pub sent_size : Message → ℕ
sent_size m = length m.subject + length m.headers + length m.payload

abbrev pub size : Message → ℕ
size m = sent_size m + 40

abbrev pub seqs : List Message → List ℕ
seqs messages = map (λ m. m.seq) messages

abbrev pub pending_seqs : Consumer → List ℕ
pending_seqs c = map (λ p. p.seq) c.pending

-- a filter matches a subject; the empty one matches all
abbrev pub passes_filter : Bytes → Bytes → Bool
passes_filter pattern subject = is_empty pattern || matches (tokens pattern) (tokens subject)

-- the consumer's filter matches the message
abbrev pub takes : Consumer → Message → Bool
takes c m = passes_filter c.config.filter_subject m.subject

abbrev pub is_push : Consumer → Bool
is_push c = not (is_empty c.config.deliver_subject)

-- its deliveries wait for no acknowledgement
abbrev pub is_unacknowledged : Consumer → Bool
is_unacknowledged c = unacknowledged c.config.ack_policy
  where
    unacknowledged : AckPolicy → Bool
    unacknowledged NoAck = true
    unacknowledged AckAll = false
    unacknowledged Explicit = false

-- a count below the limit, if there is one
abbrev pub below_limit : ℕ → Option ℕ → Bool
below_limit n None = true
below_limit n (Some limit) = nat_lt n limit

abbrev pub at_limit : ℕ → Option ℕ → Bool
at_limit n None = false
at_limit n (Some limit) = n == limit

abbrev pub over_limit : ℕ → Option ℕ → Bool
over_limit n None = false
over_limit n (Some limit) = nat_lt limit n

-- what a consumer keeps of these sequences
abbrev pub confined : List ℕ → Consumer → Consumer
confined kept c = record c {
  picks = filter (has kept) c.picks;
  pending = filter (λ p. has kept p.seq) c.pending;
  given_up = filter (has kept) c.given_up;
}

-- the stream with these messages alone
abbrev pub only : Stream → List Message → Stream
only s messages = record s { messages = messages; consumers = map (confined (seqs messages)) s.consumers }

abbrev pub by_name : List Consumer → Bytes → Option Consumer
by_name consumers name = find (λ c. same c.name name) consumers

abbrev pub in_place_of : Consumer → Consumer → Consumer
in_place_of new c = if same c.name new.name then new else c

-- the stream with another consumer in the place of the one of its name
abbrev pub with_consumer : Stream → Consumer → Stream
with_consumer s new = record s { consumers = map (in_place_of new) s.consumers }

-- the first stored sequence, or the next one
abbrev pub first_seq : Stream → ℕ
first_seq s = first s.messages
  where
    first : List Message → ℕ
    first [] = s.last + 1
    first (m ∷ _) = m.seq

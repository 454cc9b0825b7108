-- The numbers that a stream and a consumer show, by JetStream's stream and consumer information.
use Rattle.std.specs.Prelude.{ℕ, ◌-◌, nat_lt, nat_le, ◌&&◌, ◌||◌, ◌==◌, List, [], ◌∷◌, length, filter, Option, Some, None, option_map, if◌then◌else◌, sum_by, min}
use Rattle.std.specs.List.{last_or}
use Rattle.js_base.specs.Bytes.{has}
use Rattle.js_model.specs.declared.stream.Message.{Message}
use Rattle.js_model.specs.declared.stream.Stream.{Stream}
use Rattle.js_model.specs.declared.consumer.Consumer.{Consumer}
use Rattle.js_model.specs.declared.reply.Info.{Info}
use Rattle.js_model.specs.declared.reply.StreamInfo.{StreamInfo}
use Rattle.js_model.specs.declared.reply.ConsumerInfo.{ConsumerInfo}
use Rattle.js_model.specs.Streams.{takes, size, first_seq, pending_seqs}

-- the messages that are still to be delivered to the consumer
abbrev pub to_deliver : Stream → Consumer → List Message
to_deliver s c = filter (λ m. takes c m && (has c.picks m.seq || nat_le c.cursor m.seq)) s.messages

abbrev pub pending_count : Stream → Consumer → ℕ
pending_count s c = length (to_deliver s c)

-- the least of two ascending lists, or the number if both are empty
abbrev pub least : List ℕ → List ℕ → ℕ → ℕ
least [] [] none = none
least (m ∷ _) [] none = m
least [] (n ∷ _) none = n
least (m ∷ _) (n ∷ _) none = min m n

abbrev pub info_of : Stream → Consumer → Info
info_of s c = record {
  consumer_seq = c.dseq;
  stream_seq = c.cursor - 1;
  ack_floor = least (pending_seqs c) c.given_up c.cursor - 1;
  ack_pending = length c.pending;
  pending = pending_count s c;
  redelivered = length (filter (λ p. nat_lt 1 p.count) c.pending);
  waiting = length c.waiting;
}

abbrev pub consumer_info : Stream → Consumer → ConsumerInfo
consumer_info s c = record { stream = s.config.name; name = c.name; made = c.made; config = c.config; info = info_of s c }

abbrev pub first_message : List Message → Option Message
first_message [] = None
first_message (m ∷ _) = Some m

abbrev pub moment_of : Option Message → Option ℕ
moment_of o = option_map (λ m. m.at) o

abbrev pub stream_info : Stream → StreamInfo
stream_info s = record {
  config = s.config;
  made = s.made;
  messages = length s.messages;
  bytes = sum_by size s.messages;
  first_seq = if s.last == 0 then 0 else first_seq s;
  first_at = moment_of (first_message s.messages);
  last_seq = s.last;
  last_at = moment_of (last_or None s.messages);
  consumers = length s.consumers;
}

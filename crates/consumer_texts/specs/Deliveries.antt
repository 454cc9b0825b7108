-- The message that a delivery sends and the subject to which it is acknowledged, by JetStream's acknowledgement subjects.
use Rattle.std.specs.Prelude.{◌≡◌, ℕ, ◌++◌, Some, codes, decimal}
use Rattle.js_base.specs.Bytes.{Bytes}
use Rattle.js_base.specs.declared.out.Out.{Out}
use Rattle.js_model.specs.declared.stream.Message.{Message}
use Rattle.js_model.specs.declared.stream.Stream.{Stream}
use Rattle.js_model.specs.declared.consumer.Consumer.{Consumer}
use Rattle.js_model.specs.Counts.{pending_count}
use Rattle.js_model.specs.Deliver.{address, delivery_out}

-- what a delivery tells beside its message: the names of the stream and the consumer, how often the message was delivered, the consumer sequence, and
-- how many messages are still to be delivered
pub record SendingFacts : Type 0 where
  pub stream : Bytes
  pub consumer : Bytes
  pub count : ℕ
  pub dseq : ℕ
  pub left : ℕ

abbrev pub ack_text : SendingFacts → Message → Bytes
ack_text told m =
    codes "$JS.ACK." ++ told.stream ++ codes "." ++ told.consumer ++ codes "." ++ decimal told.count ++ codes "." ++ decimal m.seq ++ codes "." ++ decimal told.dseq ++ codes "." ++ decimal m.at ++ codes "." ++ decimal told.left

-- the message that a delivery sends to a subject
abbrev pub delivery_of : SendingFacts → Bytes → Message → Out
delivery_of told to m = record {
  to = to;
  subject = m.subject;
  reply = Some (ack_text told m);
  headers = m.headers;
  payload = m.payload;
}

-- what is told of a delivery of a stream to the consumer that is new after it
abbrev pub told_of : Stream → Consumer → ℕ → SendingFacts
told_of s new count = record { stream = s.config.name; consumer = new.name; count = count; dseq = new.dseq; left = pending_count s new }

-- it is what a delivery of the machine sends
abbrev pub LawDelivery : Type 0
LawDelivery = (s : Stream) (old new : Consumer) (m : Message) (count : ℕ) → delivery_out s old new m count ≡ delivery_of (told_of s new count) (address old) m

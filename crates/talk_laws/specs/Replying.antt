-- What a client sends back to the reply subject of a delivery acknowledges that delivery's message, by JetStream's acknowledgements.
use Rattle.std.specs.Prelude.{◌≡◌, ◌<◌, ◌^◌, ℕ, IsTrue, Ok}
use Rattle.js_model.specs.declared.stream.Stream.{Stream}
use Rattle.js_model.specs.declared.stream.Message.{Message}
use Rattle.js_model.specs.declared.consumer.Consumer.{Consumer}
use Rattle.js_model.specs.Configs.{is_name}
use Rattle.js_model.specs.Counts.{pending_count}
use Rattle.js_model.specs.Deliver.{ack_subject}
use Rattle.ack_parse.specs.Subjects.{subject_of}

-- the reply subject of a delivery is read as that of its stream, its consumer and its message
abbrev pub LawReplyRead : Type 0
LawReplyRead = (a : Stream) (c : Consumer) (m : Message) (count : ℕ) → IsTrue (is_name a.config.name) → IsTrue (is_name c.name)
    → count < 2 ^ 62 → m.seq < 2 ^ 62 → c.dseq < 2 ^ 62 → m.at < 2 ^ 62 → pending_count a c < 2 ^ 62
    → subject_of (ack_subject a c m count) ≡ Ok (record { stream = a.config.name; consumer = c.name; seq = m.seq })

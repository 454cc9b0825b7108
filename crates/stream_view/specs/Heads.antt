-- What is seen of a message, this server's own: all but its header block and its payload.
use Rattle.std.specs.Prelude.{ℕ}
use Rattle.js_base.specs.Bytes.{Bytes}
use Rattle.js_model.specs.declared.stream.Message.{Message}
use Rattle.js_model.specs.Streams.{size}

pub record MessageHead : Type 0 where
  pub seq : ℕ
  pub at : ℕ
  pub subject : Bytes
  pub size : ℕ

abbrev pub head_of : Message → MessageHead
head_of m = record { seq = m.seq; at = m.at; subject = m.subject; size = size m }

-- The order of a stream's messages, by JetStream's stream sequences.
use Rattle.std.specs.Prelude.{◌+◌, ◌^◌, ◌<◌}
use Rattle.js_model.specs.declared.stream.Stream.{Stream}
use Rattle.js_model.specs.Lists.{Between}

-- the sequences of its messages ascend from 1 on up to its last one, which is below 2 ^ 62
pub record IsInOrder (s : Stream) : Type 0 where
  pub ascends : Between (λ m. m.seq) 1 (s.last + 1) s.messages
  pub bound : s.last < 2 ^ 62

-- Streams with consumers that can be restored from what was kept of them, this server's own.
use Rattle.std.specs.Prelude.{All}
use Rattle.js_model.specs.declared.stream.Stream.{Stream}
use Rattle.model_laws.specs.Sound.{AreOrdered}
use Rattle.consumer_need.specs.Stored.{HoldsStored}
use Rattle.consumer_state.specs.Keeping as consumer
use Rattle.stored_stream.specs.Restoring as stored

-- what is stored can be restored and so can each consumer, the consumers hold stored messages alone, and stand in the order of their names
pub record IsRestorable (s : Stream) : Type 0 where
  pub stored : stored.IsRestorable s
  pub consumers : All consumer.IsRestorable s.consumers
  pub held : All (HoldsStored s) s.consumers
  pub ordered : AreOrdered s.consumers

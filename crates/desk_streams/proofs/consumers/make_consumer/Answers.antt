use Rattle.desk_streams.proofs.Asked.{may_make_consumer}
use Rattle.desk_streams.proofs.consumers.make_consumer.Goals as goal

pub ask_stream-requires-clause-asked : goal.ask_stream-requires-clause-asked
ask_stream-requires-clause-asked g c = may_make_consumer _ _ _ _ _ c.requires.creation c.requires.to

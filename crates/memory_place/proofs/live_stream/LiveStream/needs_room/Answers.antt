use Rattle.std.proofs.lemmas.Bool.{and_parts}
use Rattle.memory_place.proofs.live_stream.LiveStream.needs_room.Goals as goal

pub makes_consumer-requires : goal.makes_consumer-requires
makes_consumer-requires c = record { valid = (and_parts _ _ (and_parts _ _ (rw c.in-MakeConsumer.is at c.requires.proper)).0).1 }

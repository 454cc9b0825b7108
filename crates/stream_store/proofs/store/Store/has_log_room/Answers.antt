use Rattle.std.proofs.Common.{arith}
use Rattle.stream_store.proofs.Known.{room_short}
use Rattle.stream_store.proofs.store.Store.has_log_room.Goals as goal

pub passes-requires : goal.passes-requires
passes-requires c =
    let i = c.self.inside in
    let most = room_short i.rooms c.file.result c.of.result c.self.invariant.1.1 (omega (arith, c.of.ensures.value)) in
    record { small = most }

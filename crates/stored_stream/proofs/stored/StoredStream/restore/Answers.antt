use Rattle.std.proofs.Common.{◌+◌}
use Rattle.stored_stream.proofs.Refilling.{between_ascends, ascends_lower}
use Rattle.stored_stream.proofs.stored.StoredStream.restore.Goals as goal

pub indexed-requires-clause-ascends : goal.indexed-requires-clause-ascends
indexed-requires-clause-ascends c =
    let s = c.args.kept.now in
    rw c.as_slice.ensures (ascends_lower 1 s.messages (between_ascends 1 (s.last + 1) s.messages c.requires.kept.sound.ascends))

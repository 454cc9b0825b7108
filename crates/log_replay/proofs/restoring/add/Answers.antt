use Rattle.std.proofs.Common.{Err, ap, arith}
use Rattle.log_replay.proofs.restoring.add.Goals as goal

pub unreachable-requires : goal.unreachable-requires
unreachable-requires c =
    let full = c.in-Err-Full.ensures.full.0 (ap Err c.in-Err-Full.field-0-is) in
    let room = c.requires.room in
    absurd (omega (arith, full, room))

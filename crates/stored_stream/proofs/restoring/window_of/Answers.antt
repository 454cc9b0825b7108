use Rattle.std.proofs.Common.{arith}
use Rattle.stored_stream.proofs.Refilling.{absent_earlier, latest_earlier}
use Rattle.stored_stream.proofs.restoring.window_of.Goals as goal

pub add_id-requires-clause-absent : goal.add_id-requires-clause-absent
add_id-requires-clause-absent c =
    let here = c.id-item.result in
    rw (c.loop-id.invariant, c.id-item.is) (absent_earlier c.args.kept.now c.loop-id.id-index here c.requires.apart (omega arith))

pub add_id-requires-clause-latest : goal.add_id-requires-clause-latest
add_id-requires-clause-latest c =
    let here = c.id-item.result in
    rw (c.loop-id.invariant, c.id-item.is) (latest_earlier 0 c.args.now c.args.kept.now c.loop-id.id-index here c.requires.in_time (omega arith))

use Rattle.std.proofs.Common.{arith}
use Rattle.stored_stream.proofs.Refilling.{above_earlier}
use Rattle.stored_stream.proofs.restoring.indexed.Goals as goal

pub push-requires-clause-above : goal.push-requires-clause-above
push-requires-clause-above c =
    let here = c.message-item.result in
    rw (c.loop-message.invariant, c.in_ok-copy_message.ensures.copy, c.message-item.is) (above_earlier 0 c.args.kept.now c.loop-message.message-index here c.requires.ascends (omega arith))

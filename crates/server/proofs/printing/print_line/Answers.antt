use Rattle.server.proofs.Printed.{part_printed, part_failed, line_printed}
use Rattle.std.proofs.Common.{arith}
use Rattle.server.proofs.printing.print_line.Goals as goal

pub returns-in-Failed : goal.returns-in-Failed
returns-in-Failed g c =
    let so = c.loop-part.invariant in
    record { printed = part_failed c.args.parts.now c.loop-part.part-index _ _ _ _ _ _ _ c.loop-part-test.true so.printed so.later c.in-Failed.ensures.written c.in-Failed.ensures.cause }

pub loop-part-preserved : goal.loop-part-preserved
loop-part-preserved g c =
    let so = c.loop-part.invariant in
    let cause = c.in-Done.ensures.cause.later in
    record {
      printed = part_printed c.args.parts.now c.loop-part.part-index _ _ _ _ c.loop-part-test.true so.printed c.in-Done.ensures.written;
      later = omega (arith, so.later, cause);
    }

pub returns : goal.returns
returns g c =
    let so = c.loop-part.invariant in
    record { printed = line_printed c.args.parts.now c.loop-part.part-index c.put.result _ _ _ _ _ _ c.loop-part-test.false so.printed so.later c.put.ensures.written c.put.ensures.cause }

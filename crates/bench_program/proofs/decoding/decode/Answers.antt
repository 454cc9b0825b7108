use Rattle.std.proofs.Common.{arith}
use Rattle.std.proofs.lemmas.Grind.{common_steps}
use Rattle.bench_program.proofs.Counted.{fed_first, fed_more}
use Rattle.bench_program.proofs.decoding.decode.Goals as goal

pub loop-rest-init : goal.loop-rest-init
loop-rest-init c = fed_first _ _ c.new-decoder.ensures.start

pub loop-rest-preserved : goal.loop-rest-preserved
loop-rest-preserved c =
    let split = c.split_at.ensures in
    let taken = c.in-Ok-take_all.ensures in
    fed_more _ c.in-Ok-take_all.count _ c.min.result _ _ _ _ _ _ _ c.loop-rest.invariant split.front split.back (grind (arith, common_steps)) c.in-Ok.ensures.ok taken.takes taken.total
    c.from-operations.ensures (grind (arith, common_steps))

use Rattle.std.proofs.Common.{arith}
use Rattle.block_reading.proofs.Checking.{is_batch, is_on}
use Rattle.block_reading.proofs.bytes.next_message.Goals as goal

pub returns-in-Ok-clause-on : goal.returns-in-Ok-clause-on
returns-in-Ok-clause-on c =
    is_on c.args.bytes.now c.args.at c.in-Ok.seq c.in-Ok.behind (is_batch c.args.bytes.now (λ k. (c.type_inv.bytes k).fits) c.requires.short) c.in-Ok.ensures.reading

pub overflow_cast-result : goal.overflow_cast-result
overflow_cast-result c =
    let on = is_on c.args.bytes.now c.args.at c.in-Ok.seq c.in-Ok.behind (is_batch c.args.bytes.now (λ k. (c.type_inv.bytes k).fits) c.requires.short) c.in-Ok.ensures.reading in
    omega (arith, on.within, c.requires.short)

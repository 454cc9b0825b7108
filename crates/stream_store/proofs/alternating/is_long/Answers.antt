use Rattle.std.proofs.Common.{arith}
use Rattle.stream_store.proofs.Alternations.{long_is}
use Rattle.stream_store.proofs.alternating.is_long.Goals as goal

pub returns-then-first_end-end : goal.returns-then-first_end-end
returns-then-first_end-end c = record {
  value = long_is c.args.log.now c.args.count c.args.bound c.end-then-first_end-end.result c.longest.result c.passes.result (omega (arith, c.if-first_end-end.true, c.first_end.ensures.value, c.end.ensures.value)) c.end-then-first_end-end.ensures.value c.longest.ensures.value c.passes.ensures.value;
}

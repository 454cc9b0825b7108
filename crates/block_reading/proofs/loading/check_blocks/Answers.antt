use Rattle.std.proofs.Common.{ap, arith, get_or, length, subst}
use Rattle.std.specs.Option.{option_to_list}
use Rattle.std.proofs.lemmas.List.Elements.{All-nil}
use Rattle.std.proofs.lemmas.Result.{err_from_is_err_and, on_ok_weaker, IfErr-weaker}
use Rattle.vol_disk.specs.Disk.{Files}
use Rattle.vol_disk.proofs.Moments.{quiet, quiet_then}
use Rattle.block_table.specs.Blocks.{blocks}
use Rattle.block_reading.specs.Standing.{IsWhole}
use Rattle.block_reading.specs.Reading.{IsBlockFault, IsCheckFault}
use Rattle.block_reading.proofs.Before.{same_seen}
use Rattle.block_reading.proofs.Loads.{bad_at, item_is, none_written, whole_more, written_bad, written_whole}
use Rattle.block_reading.proofs.loading.check_blocks.Goals as goal

pub loop-block-init : goal.loop-block-init
loop-block-init g c = record {
  whole = λ told. All-nil (IsWhole (g.V.Vol.disk c.args.vol.now).seen c.args.last);
  quiet = λ told. quiet (g.V.Vol.disk c.args.vol.now) (g.met.V.Vol.clocked c.args.vol.now);
  faults = omega arith;
  refusals = omega arith;
  moments = omega arith;
}

pub returns-in_err-check_block-clause-fault : goal.returns-in_err-check_block-clause-fault
returns-in_err-check_block-clause-fault g c = λ told.
    let k = get_or c.older-block-items.result.now c.loop-block.block-index (record { file = 0; end = 0 }) in
    let within = c.loop-block-test.true in
    let long = ap length c.older-block-items.ensures.value in
    let was = g.V.Vol.disk c.args.vol.now in
    let mid = g.V.Vol.disk c.loop-block.vol in
    let p = err_from_is_err_and c.from_residual.result c.from_residual.ensures.1 in
    let fault = subst (λ (image : Files). IsBlockFault image c.args.last k c.in_err-check_block.field-0.0) (same_seen was mid (c.loop-block.invariant.quiet told)) (c.in_err-check_block.ensures.fault told) in
    rw (p.1, p.2)
    (bad_at was.seen c.args.last c.args.table.now.older (option_to_list c.args.table.now.writing) c.loop-block.block-index k c.in_err-check_block.field-0.0 (omega (arith, within, long)) (item_is c.older-block-items.result.now c.args.table.now.older c.loop-block.block-index (record { file = 0; end = 0 }) c.older-block-items.ensures.value within)
    (c.loop-block.invariant.whole told) fault)

pub returns-in_err-check_block-clause-quiet : goal.returns-in_err-check_block-clause-quiet
returns-in_err-check_block-clause-quiet g c = λ told.
    quiet_then (g.V.Vol.disk c.args.vol.now) (g.V.Vol.disk c.loop-block.vol) (g.V.Vol.disk c.check_block.new.vol) (c.loop-block.invariant.quiet told) (c.check_block.ensures.quiet told)

pub loop-block-preserved : goal.loop-block-preserved
loop-block-preserved g c =
    let k = get_or c.older-block-items.result.now c.loop-block.block-index (record { file = 0; end = 0 }) in
    let within = c.loop-block-test.true in
    let long = ap length c.older-block-items.ensures.value in
    let was = g.V.Vol.disk c.args.vol.now in
    let mid = g.V.Vol.disk c.loop-block.vol in
    record {
      whole = λ told.
          whole_more was.seen c.args.last c.args.table.now.older c.loop-block.block-index k (omega (arith, within, long)) (item_is c.older-block-items.result.now c.args.table.now.older c.loop-block.block-index (record { file = 0; end = 0 }) c.older-block-items.ensures.value within) (c.loop-block.invariant.whole told)
          (subst (λ (image : Files). IsWhole image c.args.last k) (same_seen was mid (c.loop-block.invariant.quiet told)) (c.in_ok-check_block.ensures.whole told));
      quiet = λ told. quiet_then was mid (g.V.Vol.disk c.check_block.new.vol) (c.loop-block.invariant.quiet told) (c.check_block.ensures.quiet told);
      faults = omega (arith, c.loop-block.invariant.faults, c.check_block.ensures.cause.later);
      refusals = omega (arith, c.loop-block.invariant.refusals, c.check_block.ensures.refusals);
      moments = omega (arith, c.loop-block.invariant.moments, c.check_block.ensures.later);
    }

pub returns-in-Some-clause-whole : goal.returns-in-Some-clause-whole
returns-in-Some-clause-whole g c = λ told.
    let was = g.V.Vol.disk c.args.vol.now in
    let mid = g.V.Vol.disk c.loop-block.vol in
    on_ok_weaker c.check_block-in-Some.result
    (λ one. written_whole was.seen c.args.last c.args.table.now c.loop-block.block-index c.in-Some.block (omega (arith, c.loop-block-test.false, ap length c.older-block-items.ensures.value)) c.in-Some.ensures.value (c.loop-block.invariant.whole told)
    (subst (λ (image : Files). IsWhole image c.args.last c.in-Some.block) (same_seen was mid (c.loop-block.invariant.quiet told)) one))
    (c.check_block-in-Some.ensures.whole told)

pub returns-in-Some-clause-fault : goal.returns-in-Some-clause-fault
returns-in-Some-clause-fault g c = λ told.
    let was = g.V.Vol.disk c.args.vol.now in
    let mid = g.V.Vol.disk c.loop-block.vol in
    IfErr-weaker c.check_block-in-Some.result (IsBlockFault mid.seen c.args.last c.in-Some.block) (IsCheckFault was.seen c.args.last (blocks c.args.table.now))
    (λ fault h. written_bad was.seen c.args.last c.args.table.now c.loop-block.block-index c.in-Some.block fault (omega (arith, c.loop-block-test.false, ap length c.older-block-items.ensures.value)) c.in-Some.ensures.value (c.loop-block.invariant.whole told)
    (subst (λ (image : Files). IsBlockFault image c.args.last c.in-Some.block fault) (same_seen was mid (c.loop-block.invariant.quiet told)) h))
    (c.check_block-in-Some.ensures.fault told)

pub returns-in-Some-clause-quiet : goal.returns-in-Some-clause-quiet
returns-in-Some-clause-quiet g c = λ told.
    quiet_then (g.V.Vol.disk c.args.vol.now) (g.V.Vol.disk c.loop-block.vol) (g.V.Vol.disk c.check_block-in-Some.new.vol) (c.loop-block.invariant.quiet told) (c.check_block-in-Some.ensures.quiet told)

pub returns-in-None-clause-whole : goal.returns-in-None-clause-whole
returns-in-None-clause-whole g c = λ told.
    none_written (g.V.Vol.disk c.args.vol.now).seen c.args.last c.args.table.now c.loop-block.block-index (omega (arith, c.loop-block-test.false, ap length c.older-block-items.ensures.value)) c.in-None.ensures.value (c.loop-block.invariant.whole told)

use Rattle.desk_hold.proofs.Delivered.{size_all, size_more}
use Rattle.desk_hold.proofs.delivering.size_of.Goals as goal

pub loop-out-preserved : goal.loop-out-preserved
loop-out-preserved c = size_more _ _ _ _ _ _ c.loop-out-test.true c.out-item.is c.loop-out.invariant c.bytes_of.ensures.value c.saturating_add-size.ensures

pub returns : goal.returns
returns c = record { value = size_all c.args.outs.now c.loop-out.out-index c.loop-out.size (c.loop-out-test.false) c.loop-out.invariant }

use Rattle.std.proofs.Common.{arith}
use Rattle.stream_store.proofs.Taken.{then_all, then_one}
use Rattle.stream_store.proofs.alternating.table_with.Goals as goal

pub loop-step-preserved : goal.loop-step-preserved
loop-step-preserved c =
    then_one c.args.steps.now c.loop-step.step-index _ c.args.table.now c.loop-step.then c.take_step.new.table (omega arith) c.loop-step.invariant c.in_ok-take_step.ensures.ok

pub returns-clause-value : goal.returns-clause-value
returns-clause-value c = then_all c.args.steps.now c.loop-step.step-index c.args.table.now c.loop-step.then (omega arith) c.loop-step.invariant

use Rattle.std.proofs.Common.{◌∙◌, arith, sym}
use Rattle.stream_store.proofs.Taken.{taken_all, taken_one}
use Rattle.stream_store.proofs.late.LateTable.catch_up.Goals as goal

pub loop-self-preserved : goal.loop-self-preserved
loop-self-preserved c =
    let before = c.loop-self.self in
    taken_one before.steps.items before.taken c.index-step.result.now before.table c.take_step.new.table (omega arith) c.index-step.ensures c.in_ok-take_step.ensures.ok ∙ c.loop-self.invariant

pub returns-clause-all : goal.returns-clause-all
returns-clause-all c =
    let before = c.loop-self.self in
    sym (taken_all before.steps.items before.taken before.table (omega arith)) ∙ c.loop-self.invariant

use Rattle.workers.proofs.Deeds.{worked_more, worked_nothing}
use Rattle.workers.proofs.worker.Worker.tick_all.Goals as goal
use Rattle.workers.proofs.worker.Worker.tick_all.Goals.{then-is_due, else-is_due}

pub loop-at-init : goal.loop-at-init
loop-at-init g c = (c.requires.idle, worked_nothing g.B.Beginning.limits c.requires.idle.scene c.args.self.now.pass c.args.self.now.worn c.requires.idle.there)

pub loop-at-preserved : goal.loop-at-preserved
loop-at-preserved g c = elim c.if-is_due.branch [
  | then-is_due w ↦ rw w.self-is (w.tick.ensures.idle, worked_more g.B.Beginning.limits _ _ _ _ _ _ c.loop-at.invariant.1 w.tick.ensures.worked)
  | else-is_due w ↦ rw w.self-is c.loop-at.invariant
]

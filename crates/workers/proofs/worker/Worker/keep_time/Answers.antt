use Rattle.workers.proofs.Deeds.{worked_more, worked_nothing}
use Rattle.workers.proofs.worker.Worker.keep_time.Goals as goal

pub loop-init : goal.loop-init
loop-init g c = (c.requires.idle, worked_nothing g.B.Beginning.limits c.requires.idle.scene c.args.self.now.pass c.args.self.now.worn c.requires.idle.there)

pub loop-preserved : goal.loop-preserved
loop-preserved g c = (c.tick_all.ensures.idle, worked_more g.B.Beginning.limits _ _ _ _ _ _ c.loop.invariant.1 c.tick_all.ensures.worked)

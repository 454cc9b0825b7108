use Rattle.std.specs.Prelude.{◌≡◌}
use Rattle.workers.specs.Working.{IsIdle, Worked}
use Rattle.workers.proofs.worker.Worker.tick_all.Given as goal

abbrev pub invariant-loop-at : goal.invariant-loop-at
invariant-loop-at g l = IsIdle l.place.hub.now l.self.pass l.self.share.parts l.self.share.amount × Worked g.B.Beginning.limits l.fn.self.pass l.self.pass l.fn.self.worn l.self.worn

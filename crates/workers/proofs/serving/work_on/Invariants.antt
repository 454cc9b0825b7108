use Rattle.std.specs.Prelude.{◌≡◌}
use Rattle.std.specs.List.{AllByRecursion, AllZip}
use Rattle.workers.specs.Working.{IsIdle, Worked}
use Rattle.workers.proofs.serving.work_on.Given as goal

abbrev pub invariant-loop : goal.invariant-loop
invariant-loop g l = AllByRecursion (λ w. IsIdle l.place.hub.now w.pass w.share.parts w.share.amount) l.workers.items
    × AllZip (λ was is. Worked g.B.Beginning.limits was.pass is.pass was.worn is.worn) l.fn.workers.items l.workers.items

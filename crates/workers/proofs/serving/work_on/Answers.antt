use Rattle.std.proofs.Common.{◌≡◌, arith}
use Rattle.workers.proofs.Team.{gone_length, gone_more, gone_nothing}
use Rattle.workers.proofs.serving.work_on.Goals as goal

pub loop-init : goal.loop-init
loop-init g c = (c.requires.idle, gone_nothing _ _ g.B.Beginning.limits c.args.place.now.hub.now _ _ c.args.workers.now.items c.requires.idle)

pub work_all-requires-clause-some : goal.work_all-requires-clause-some
work_all-requires-clause-some g c = omega (arith, gone_length _ _ g.B.Beginning.limits c.args.workers.now.items c.loop.workers.items c.loop.invariant.1, c.requires.some)

pub loop-preserved : goal.loop-preserved
loop-preserved g c = (c.work_all.ensures.idle, gone_more _ _ g.B.Beginning.limits c.args.workers.now.items _ _ c.loop.invariant.1 c.work_all.ensures.worked)

pub returns-then-not-is_open-clause-worked : goal.returns-then-not-is_open-clause-worked
returns-then-not-is_open-clause-worked g c = gone_more _ _ g.B.Beginning.limits c.args.workers.now.items _ _ c.loop.invariant.1 c.work_all.ensures.worked

use Rattle.block_writing.proofs.Commits.{plans_of}
use Rattle.block_writing.proofs.laws.law_plans.Goals as goal

pub returns : goal.returns
returns g c = plans_of (g.V.Vol.disk c.args.before.now) (g.V.Vol.disk c.args.after.now)

use Rattle.workers.proofs.Deeds.{worked_nothing}
use Rattle.workers.proofs.worker.Worker.round.Goals as goal

pub returns-in-Nobody-clause-worked : goal.returns-in-Nobody-clause-worked
returns-in-Nobody-clause-worked g c = worked_nothing g.B.Beginning.limits c.requires.idle.scene c.args.self.now.pass c.args.self.now.worn c.requires.idle.there

pub returns-in-Starved-clause-worked : goal.returns-in-Starved-clause-worked
returns-in-Starved-clause-worked g c = worked_nothing g.B.Beginning.limits c.requires.idle.scene c.args.self.now.pass c.args.self.now.worn c.requires.idle.there

pub returns-in-Over-clause-worked : goal.returns-in-Over-clause-worked
returns-in-Over-clause-worked g c = worked_nothing g.B.Beginning.limits c.requires.idle.scene c.args.self.now.pass c.args.self.now.worn c.requires.idle.there

use Rattle.hub_catalog.proofs.Found.{answered_settled}
use Rattle.hub_catalog.proofs.turn.OpenCatalog.by_name.Goals as goal

pub returns-clause-settled : goal.returns-clause-settled
returns-clause-settled c = answered_settled c.args.self.now.kept c.look.new.self.kept c.args.name.now c.look.result c.look.ensures.called.answers c.look.ensures.kept

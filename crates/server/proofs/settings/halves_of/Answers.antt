use Rattle.server.proofs.Spelled.{splits_not}
use Rattle.server.proofs.settings.halves_of.Goals as goal

pub returns-in-None : goal.returns-in-None
returns-in-None c = splits_not c.args.word.now c.in-None.ensures.cases

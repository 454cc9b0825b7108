use Rattle.server.proofs.Placeless.{welcome}
use Rattle.server.proofs.laws.law_welcome.Goals as goal

pub returns : goal.returns
returns c = record { welcome = welcome }

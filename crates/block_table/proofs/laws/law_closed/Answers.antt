use Rattle.block_table.proofs.Closing.{law_closed}
use Rattle.block_table.proofs.laws.law_closed.Goals as goal

pub returns : goal.returns
returns c = law_closed

use Rattle.restore_laws.proofs.Holding.{opened, held, held_opened}
use Rattle.restore_laws.proofs.laws.law_held.Goals as goal

pub returns : goal.returns
returns c = record { opened = opened; held = held; held_opened = held_opened }

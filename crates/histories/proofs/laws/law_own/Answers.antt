use Rattle.histories.proofs.Own.{own-grows, own-left}
use Rattle.histories.proofs.laws.law_own.Goals as goal

pub returns : goal.returns
returns c = record { own = own-grows; added = own-left }

use Rattle.shared_desk.proofs.Numbers.{all_kept}
use Rattle.shared_desk.proofs.laws.law_all.Goals as goal

pub returns : goal.returns
returns c = record { law = all_kept }

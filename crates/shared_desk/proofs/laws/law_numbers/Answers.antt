use Rattle.shared_desk.proofs.Numbers.{numbers_kept}
use Rattle.shared_desk.proofs.laws.law_numbers.Goals as goal

pub returns : goal.returns
returns c = record { law = numbers_kept }

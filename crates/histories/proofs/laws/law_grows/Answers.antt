use Rattle.histories.proofs.Own.{grows-same, grows-both}
use Rattle.histories.proofs.laws.law_grows.Goals as goal

pub returns : goal.returns
returns c = record { same = grows-same; both = grows-both }

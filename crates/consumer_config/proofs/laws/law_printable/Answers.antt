use Rattle.consumer_config.proofs.Parts.{printable}
use Rattle.consumer_config.proofs.laws.law_printable.Goals as goal

pub returns : goal.returns
returns c = record { printable = printable }

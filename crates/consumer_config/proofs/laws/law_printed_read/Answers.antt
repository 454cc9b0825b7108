use Rattle.consumer_config.proofs.Printed.{printed_read}
use Rattle.consumer_config.proofs.laws.law_printed_read.Goals as goal

pub returns : goal.returns
returns c = record { same = printed_read }

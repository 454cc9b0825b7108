use Rattle.js_base.proofs.Printing.{printed_is_read}
use Rattle.js_base.proofs.laws.law_decimal.Goals as goal

pub returns : goal.returns
returns c = printed_is_read

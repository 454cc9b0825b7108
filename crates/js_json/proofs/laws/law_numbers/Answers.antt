use Rattle.js_json.proofs.Numerals.{integers_read, whole_read}
use Rattle.js_json.proofs.laws.law_numbers.Goals as goal

pub returns : goal.returns
returns c = record { integer = integers_read; numeral = whole_read }

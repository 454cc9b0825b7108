use Rattle.js_json.proofs.Written.{written, written_is_read}
use Rattle.js_json.proofs.laws.law_time_text.Goals as goal

pub returns : goal.returns
returns c = record { text = written; round_trip = written_is_read }

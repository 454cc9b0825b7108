use Rattle.js_json.proofs.Moments.{time_read}
use Rattle.js_json.proofs.laws.law_time.Goals as goal

pub returns : goal.returns
returns c = record { time = time_read }

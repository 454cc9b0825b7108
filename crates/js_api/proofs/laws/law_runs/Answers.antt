use Rattle.js_api.proofs.ThreeRuns.{law_runs}
use Rattle.js_api.proofs.laws.law_runs.Goals as goal

pub returns : goal.returns
returns c = record { law = law_runs }

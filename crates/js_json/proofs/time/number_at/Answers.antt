use Rattle.js_json.proofs.ReadParts.{number-lt}
use Rattle.js_json.proofs.time.number_at.Goals as goal

pub returns-in-Ok-clause-small : goal.returns-in-Ok-clause-small
returns-in-Ok-clause-small c = number-lt c.args.width c.split_at.result.0.now c.in-Ok.n c.split_at.ensures.front_len c.in-Ok.ensures

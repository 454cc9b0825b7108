use Rattle.jiff.specs.Words.{epoch_day, signed_nanos}
use Rattle.js_json.proofs.CivilDays.{epoch_day-first}
use Rattle.js_json.proofs.ReadParts.{days_between}
use Rattle.js_json.proofs.time.nanos_to.Goals as goal

pub returns-clause-value : goal.returns-clause-value
returns-clause-value c =
    days_between c.as_nanos.result (signed_nanos c.duration_since.result) (epoch_day c.date.result) (epoch_day c.args.date) c.as_nanos.ensures.bound c.as_nanos.ensures.value c.duration_since.ensures (epoch_day-first c.date.result c.date.ensures)

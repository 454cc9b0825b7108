use Rattle.std.proofs.Common.{◌≡◌, map, drop}
use Rattle.js_json.specs.Members.{members}
use Rattle.js_model.specs.Refusals.{first_refusal}
use Rattle.consumer_config.specs.Table.{line}
use Rattle.consumer_config.specs.Reading.{checks}
use Rattle.consumer_config.proofs.judging.check_rows.Given as goal

-- the fields that are left decide
abbrev pub invariant-loop-name : goal.invariant-loop-name
invariant-loop-name l = first_refusal (checks (members l.fields) (map line l.rows)) ≡ first_refusal (checks (members l.fields) (map line (drop l.name-index l.rows)))

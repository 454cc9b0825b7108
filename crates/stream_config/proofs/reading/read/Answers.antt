use Rattle.std.proofs.Common.{◌≡◌, Ok, arith}
use Rattle.std.proofs.lemmas.Grind.{common_steps}
use Rattle.js_json.specs.Members.{members}
use Rattle.stream_config.specs.Reading.{reading}
use Rattle.stream_config.proofs.Refusing.{read_whole}
use Rattle.stream_config.proofs.Parts.{printable}
use Rattle.stream_config.proofs.Valid.{read_valid}
use Rattle.stream_config.proofs.reading.read.Goals as goal

pub returns-in-Ok-config-clause-config : goal.returns-in-Ok-config-clause-config
returns-in-Ok-config-clause-config c =
    let whole : reading c.args.name.now (members c.args.fields.now) ≡ Ok c.in-Ok-config.config = grind (arith, common_steps, read_whole) in
    read_valid c.args.name.now (members c.args.fields.now) c.in-Ok-config.config c.as_slice.ensures.name whole

pub returns-in-Ok-config-clause-printable : goal.returns-in-Ok-config-clause-printable
returns-in-Ok-config-clause-printable c =
    let whole : reading c.args.name.now (members c.args.fields.now) ≡ Ok c.in-Ok-config.config = grind (arith, common_steps, read_whole) in
    printable c.in-Ok-config.config (read_valid c.args.name.now (members c.args.fields.now) c.in-Ok-config.config c.as_slice.ensures.name whole)

use Rattle.js_json.specs.Members.{members}
use Rattle.api_requests.proofs.Unnamed.{unnamed_stops, unnamed_ends}
use Rattle.api_requests.proofs.consumers.refuse_unnamed.Goals as goal

pub returns-in_err-settings_in : goal.returns-in_err-settings_in
returns-in_err-settings_in c = record {
  reading =
      unnamed_stops c.args.token.now c.args.body.now (members c.in_ok-fields.fields) c.in_ok-stream.stream c.in_err-settings_in.field-0.0 c.from_residual-in_err-settings_in.result
      c.in_ok-fields.ensures.reading c.in_ok-stream.ensures.reading c.in_err-settings_in.ensures.reading c.from_residual-in_err-settings_in.ensures.1;
}

pub returns : goal.returns
returns c = record {
  reading =
      unnamed_ends c.args.token.now c.args.body.now (members c.in_ok-fields.fields) c.in_ok-stream.stream c.in_ok-settings_in.field-0 c.in_ok-name_mismatch.field-0
      c.in_ok-fields.ensures.reading c.in_ok-stream.ensures.reading c.in_ok-settings_in.ensures.reading c.in_ok-name_mismatch.ensures.value;
}

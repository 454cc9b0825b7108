use Rattle.js_json.specs.Members.{members}
use Rattle.api_requests.specs.Seen.{tokens_seen}
use Rattle.api_requests.proofs.Disagreeing.{stops}
use Rattle.api_requests.proofs.consumers.creation_of.Goals as goal

pub returns-in_err-agreeing : goal.returns-in_err-agreeing
returns-in_err-agreeing c = record {
  reading =
      stops (tokens_seen c.args.tokens.now) c.args.body.now (members c.in_ok-fields.fields) (c.in_ok-stream.stream, c.in_ok-stream.consumer) c.in_ok-settings.settings c.in_err-agreeing.field-0.0
      c.from_residual-in_err-agreeing.result c.in_ok-fields.ensures.reading c.in_ok-stream.ensures.reading c.in_ok-settings.ensures.reading c.in_err-agreeing.ensures.reading
      c.from_residual-in_err-agreeing.ensures.1;
}

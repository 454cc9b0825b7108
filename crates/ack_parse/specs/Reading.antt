-- What a publish to a subject is as an acknowledgement, by JetStream's acknowledgements: first its subject is looked at, and then its body.
use Rattle.std.specs.Prelude.{Option, Some, None, Result, Ok, Err}
use Rattle.js_base.specs.Bytes.{Bytes}
use Rattle.js_model.specs.declared.ack.Ack.{Ack}
use Rattle.js_model.specs.declared.ack.AckKind.{AckKind}
use Rattle.ack_parse.specs.Steps.{◌>>=◌}
use Rattle.ack_parse.specs.Subjects.{subject_of}
use Rattle.ack_parse.specs.Bodies.{kind_of}
use Rattle.ack_parse.specs.declared.fault.AckFault.{AckFault}
use Rattle.ack_parse.specs.declared.fault.AckFault.TheVariants.{BadBody}

abbrev pub or_bad_body : Option AckKind → Result AckKind AckFault
or_bad_body None = Err BadBody
or_bad_body (Some kind) = Ok kind

unfoldable pub ack_of : Bytes → Bytes → Result Ack AckFault
ack_of subject body = do
  delivered ← subject_of subject
  kind ← or_bad_body (kind_of body)
  Ok (record { stream = delivered.stream; consumer = delivered.consumer; seq = delivered.seq; kind = kind })

-- What a call answered, and the reading that its definition gives: they are the same, unless memory ran out.
use Rattle.std.specs.Prelude.{◌≡◌, List, Option, Some, None, Result, Ok, Err}
use Rattle.js_base.specs.Bytes.{Bytes}
use Rattle.ack_parse.specs.Subjects.{delivered_by, read_tokens}
use Rattle.ack_parse.specs.declared.fault.AckFault.{AckFault}
use Rattle.ack_parse.specs.declared.fault.AckFault.TheVariants.{NotAck, BadToken, BadBody, NoMemory}
use Rattle.ack_parse.specs.declared.subject.Tokens.{Tokens}

abbrev pub Reads : {X : Type 0} → Result X AckFault → Result X AckFault → Type 0
Reads (Ok x) reading = reading ≡ Ok x
Reads (Err NotAck) reading = reading ≡ Err NotAck
Reads (Err (BadToken place)) reading = reading ≡ Err (BadToken place)
Reads (Err BadBody) reading = reading ≡ Err BadBody
Reads (Err NoMemory) reading = Unit {0}

-- the tokens are nine, of which the first two are right, or they are not
abbrev pub Named : Option Tokens → List Bytes → Type 0
Named (Some t) tokens = read_tokens tokens ≡ delivered_by t
Named None tokens = read_tokens tokens ≡ Err NotAck

-- What the headers of a publish ask of its stream, by JetStream's publish headers: `Nats-Msg-Id` and those of the expected stream, sequences and id.
-- The first field of a name counts, and an empty value is none. A number is a decimal below 2 ^ 62.
use Rattle.std.specs.Prelude.{ℕ, Bool, ◌&&◌, [], ◌∷◌, codes, Option, Some, None, unwrap_or, Result, Ok, Err}
use Rattle.js_base.specs.Bytes.{Bytes}
use Rattle.js_base.specs.Decimal.{number_of}
use Rattle.js_base.specs.declared.decimal.DecFault.{DecFault}
use Rattle.nats_headers.specs.Reading.{header}
use Rattle.js_model.specs.declared.event.Wants.{Wants}
use Rattle.js_model.specs.Configs.{is_number}
use Rattle.js_model.specs.Proper.{if_given}

-- ---- the headers

-- the id of the message
abbrev pub msg_id : Bytes
msg_id = codes "Nats-Msg-Id"

-- the name of the stream
abbrev pub expected_stream : Bytes
expected_stream = codes "Nats-Expected-Stream"

-- the stream's last sequence
abbrev pub expected_last : Bytes
expected_last = codes "Nats-Expected-Last-Sequence"

-- the last sequence of the message's subject
abbrev pub expected_subject_last : Bytes
expected_subject_last = codes "Nats-Expected-Last-Subject-Sequence"

-- the id of the stream's last message
abbrev pub expected_last_id : Bytes
expected_last_id = codes "Nats-Expected-Last-Msg-Id"

-- ---- their values

abbrev pub unless_empty : Option Bytes → Option Bytes
unless_empty None = None
unless_empty (Some []) = None
unless_empty (Some (byte ∷ more)) = Some (byte ∷ more)

-- the value of the first field with this name, if it is not empty
abbrev pub text_in : Bytes → Bytes → Option Bytes
text_in name block = unless_empty (header name block)

abbrev pub some_number : Result ℕ DecFault → Result (Option ℕ) DecFault
some_number (Ok n) = Ok (Some n)
some_number (Err fault) = Err fault

abbrev pub number_told : Option Bytes → Result (Option ℕ) DecFault
number_told None = Ok None
number_told (Some text) = some_number (number_of text)

-- the number that this value spells, if there is one, or why it is none
abbrev pub number_in : Bytes → Bytes → Result (Option ℕ) DecFault
number_in name block = number_told (text_in name block)

abbrev pub or_none : Result (Option ℕ) DecFault → Option ℕ
or_none (Ok number) = number
or_none (Err fault) = None

-- ---- all of them

-- the first of the two headers with numbers whose value is none
abbrev pub first_wrong : Result (Option ℕ) DecFault → Result (Option ℕ) DecFault → Option Bytes
first_wrong (Err fault) subject_last = Some expected_last
first_wrong (Ok last) (Err fault) = Some expected_subject_last
first_wrong (Ok last) (Ok subject_last) = None

-- what a publish with this header block asks of its stream
unfoldable pub wants_of : Bytes → Wants
wants_of block = record {
  bad = first_wrong (number_in expected_last block) (number_in expected_subject_last block);
  id = unwrap_or (text_in msg_id block) [];
  stream = text_in expected_stream block;
  last = or_none (number_in expected_last block);
  subject_last = or_none (number_in expected_subject_last block);
  last_id = text_in expected_last_id block;
}

-- the sequences are below 2 ^ 62, as a place asks of a publish
abbrev pub is_proper_wants : Wants → Bool
is_proper_wants wants = if_given is_number wants.last && if_given is_number wants.subject_last

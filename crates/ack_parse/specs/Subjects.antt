-- The subjects to which deliveries are acknowledged, by JetStream's acknowledgements:
-- `$JS.ACK.<stream>.<consumer>.<delivered>.<stream sequence>.<consumer sequence>.<time>.<pending>`.
use Rattle.std.specs.Prelude.{ℕ, Bool, ◌&&◌, List, [], ◌∷◌, codes, Result, Ok, Err, if◌then◌else◌}
use Rattle.js_base.specs.Bytes.{Bytes, same}
use Rattle.js_base.specs.Decimal.{number_of}
use Rattle.js_base.specs.Names.{name_of}
use Rattle.js_base.specs.Subjects.{tokens}
use Rattle.js_base.specs.declared.decimal.DecFault.{DecFault}
use Rattle.js_base.specs.declared.name.NameFault.{NameFault}
use Rattle.ack_parse.specs.Steps.{◌>>=◌}
use Rattle.ack_parse.specs.declared.fault.AckFault.{AckFault}
use Rattle.ack_parse.specs.declared.fault.AckFault.TheVariants.{NotAck, BadToken}
use Rattle.ack_parse.specs.declared.subject.Delivered.{Delivered}
use Rattle.ack_parse.specs.declared.subject.Tokens.{Tokens}

abbrev pub name_or : ℕ → Result Bytes NameFault → Result Bytes AckFault
name_or place (Ok name) = Ok name
name_or place (Err _) = Err (BadToken place)

abbrev pub number_or : ℕ → Result ℕ DecFault → Result ℕ AckFault
number_or place (Ok n) = Ok n
number_or place (Err _) = Err (BadToken place)

-- the name that the token at this place is
abbrev pub name_at : ℕ → Bytes → Result Bytes AckFault
name_at place token = name_or place (name_of token)

-- the number below 2^62 that the token at this place spells
abbrev pub number_at : ℕ → Bytes → Result ℕ AckFault
number_at place token = number_or place (number_of token)

-- what is acknowledged, by the seven tokens behind the first two: places count from 0. Four of the numbers are read, and not compared
unfoldable pub delivered_of : Bytes → Bytes → Bytes → Bytes → Bytes → Bytes → Bytes → Result Delivered AckFault
delivered_of stream consumer count sequence consumer_sequence time pending = do
  stream ← name_at 2 stream
  consumer ← name_at 3 consumer
  _ ← number_at 4 count
  seq ← number_at 5 sequence
  _ ← number_at 6 consumer_sequence
  _ ← number_at 7 time
  _ ← number_at 8 pending
  Ok (record { stream = stream; consumer = consumer; seq = seq })

abbrev pub delivered_by : Tokens → Result Delivered AckFault
delivered_by t = delivered_of t.stream.now t.consumer.now t.count.now t.sequence.now t.consumer_sequence.now t.time.now t.pending.now

abbrev pub is_ack : Bytes → Bytes → Bool
is_ack first second = same first (codes "$JS") && same second (codes "ACK")

-- nine tokens, of which the first two are `$JS` and `ACK`
abbrev pub read_tokens : List Bytes → Result Delivered AckFault
read_tokens (first ∷ second ∷ stream ∷ consumer ∷ count ∷ sequence ∷ consumer_sequence ∷ time ∷ pending ∷ []) =
    if is_ack first second then delivered_of stream consumer count sequence consumer_sequence time pending else Err NotAck
read_tokens _ = Err NotAck

-- what is acknowledged at the subject
unfoldable pub subject_of : Bytes → Result Delivered AckFault
subject_of subject = read_tokens (tokens subject)

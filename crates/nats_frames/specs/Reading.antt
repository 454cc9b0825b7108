-- What is read at the start of bytes: a function, which decides for all bytes what the grammar says by relations.
use Rattle.std.specs.Prelude.{ℕ, nat_lt, nat_le, ◌-◌, ◌+◌, Bool, not, ◌==◌, ◌&&◌, if◌then◌else◌, List, [], ◌∷◌, length, take, drop, filter, codes, Option, None, Some, option_map, Result, Ok, Err}
use Rattle.std.specs.List.{prefix_len, slice_split}
use Rattle.std.specs.Str.{str_eq_ignore_ascii_case}
use Rattle.js_base.specs.Bytes.{Bytes, same, is_empty, is_blank}
use Rattle.js_base.specs.Decimal.{number_of}
use Rattle.js_base.specs.declared.decimal.DecFault.{DecFault}
use Rattle.nats_frames.specs.declared.op.Op.{Op}
use Rattle.nats_frames.specs.declared.op.Op.TheVariants as op
use Rattle.nats_frames.specs.declared.fault.Fault.{Fault}
use Rattle.nats_frames.specs.declared.fault.Fault.TheVariants.{UnknownOp, LineTooLong, BadArgs, PayloadTooBig, BadEnd}
use Rattle.nats_frames.specs.declared.verb.Verb.{Verb}
use Rattle.nats_frames.specs.declared.verb.Verb.TheVariants.{Connect, Pub, HPub, Sub, Unsub, Ping, Pong}
use Rattle.nats_frames.specs.Grammar.{is_solid, Line, ConnectLine, PubLine, HPubLine, SubLine, UnsubLine, PingLine, PongLine}

-- what stands before and after the first such byte
abbrev pub split_at : ℕ → Bytes → Option (Bytes × Bytes)
split_at byte [] = None
split_at byte (b ∷ more) = if b == byte then Some ([], more) else option_map (λ s. (b ∷ s.0, s.1)) (split_at byte more)

-- a line without the CR at its end
abbrev pub without_cr : Bytes → Bytes
without_cr line = let words = length line - 1 in if same (drop words line) (13 ∷ []) then take words line else line

-- ---- the text of a line

-- the operation of a name, in any case
abbrev pub verb_of : Bytes → Option Verb
verb_of word =
    if str_eq_ignore_ascii_case word (codes "CONNECT") then Some Connect
    else if str_eq_ignore_ascii_case word (codes "PUB") then Some Pub
    else if str_eq_ignore_ascii_case word (codes "HPUB") then Some HPub
    else if str_eq_ignore_ascii_case word (codes "SUB") then Some Sub
    else if str_eq_ignore_ascii_case word (codes "UNSUB") then Some Unsub
    else if str_eq_ignore_ascii_case word (codes "PING") then Some Ping
    else if str_eq_ignore_ascii_case word (codes "PONG") then Some Pong
    else None

-- the fields between the blanks
abbrev pub fields_of : Bytes → List Bytes
fields_of text = filter (λ field. not (is_empty field)) (slice_split is_blank text)

abbrev pub is_sid : Bytes → Bool
is_sid sid = nat_le (length sid) 256

abbrev pub is_queue : Bytes → Bool
is_queue queue = nat_le (length queue) 1024

abbrev pub connect_of : Bytes → Result Line Fault
connect_of [] = Err BadArgs
connect_of (b ∷ text) = Ok (ConnectLine (b ∷ text))

-- the line of a number, if one is spelled
abbrev pub numbered : (ℕ → Result Line Fault) → Result ℕ DecFault → Result Line Fault
numbered line (Ok n) = line n
numbered line (Err _) = Err BadArgs

abbrev pub sized : Bytes → Option Bytes → Bytes → Result Line Fault
sized subject reply digits = numbered (λ size. Ok (PubLine subject reply size)) (number_of digits)

abbrev pub pub_of : List Bytes → Result Line Fault
pub_of (subject ∷ digits ∷ []) = sized subject None digits
pub_of (subject ∷ reply ∷ digits ∷ []) = sized subject (Some reply) digits
pub_of _ = Err BadArgs

abbrev pub headed : Bytes → Option Bytes → ℕ → ℕ → Result Line Fault
headed subject reply header size = if nat_le header size then Ok (HPubLine subject reply header size) else Err BadArgs

abbrev pub both_sized : Bytes → Option Bytes → Bytes → Bytes → Result Line Fault
both_sized subject reply header_digits digits =
    numbered (λ header. numbered (headed subject reply header) (number_of digits)) (number_of header_digits)

abbrev pub hpub_of : List Bytes → Result Line Fault
hpub_of (subject ∷ header_digits ∷ digits ∷ []) = both_sized subject None header_digits digits
hpub_of (subject ∷ reply ∷ header_digits ∷ digits ∷ []) = both_sized subject (Some reply) header_digits digits
hpub_of _ = Err BadArgs

abbrev pub sub_of : List Bytes → Result Line Fault
sub_of (subject ∷ sid ∷ []) = if is_sid sid then Ok (SubLine subject None sid) else Err BadArgs
sub_of (subject ∷ queue ∷ sid ∷ []) = if is_queue queue && is_sid sid then Ok (SubLine subject (Some queue) sid) else Err BadArgs
sub_of _ = Err BadArgs

abbrev pub limited : Bytes → Bytes → Result Line Fault
limited sid digits = numbered (λ max. Ok (UnsubLine sid (Some max))) (number_of digits)

abbrev pub unsub_of : List Bytes → Result Line Fault
unsub_of (sid ∷ []) = if is_sid sid then Ok (UnsubLine sid None) else Err BadArgs
unsub_of (sid ∷ digits ∷ []) = if is_sid sid then limited sid digits else Err BadArgs
unsub_of _ = Err BadArgs

abbrev pub bare_of : Line → List Bytes → Result Line Fault
bare_of line [] = Ok line
bare_of line (_ ∷ _) = Err BadArgs

-- what follows the blanks at the start
abbrev pub behind_blanks : Bytes → Bytes
behind_blanks text = drop (prefix_len is_blank text) text

-- what a line of this name says, with this after it
unfoldable pub args_at : Option Verb → Bytes → Result Line Fault
args_at None args = Err UnknownOp
args_at (Some Connect) args = connect_of (behind_blanks args)
args_at (Some Pub) args = pub_of (fields_of args)
args_at (Some HPub) args = hpub_of (fields_of args)
args_at (Some Sub) args = sub_of (fields_of args)
args_at (Some Unsub) args = unsub_of (fields_of args)
args_at (Some Ping) args = bare_of PingLine (fields_of args)
args_at (Some Pong) args = bare_of PongLine (fields_of args)

unfoldable pub words_at : Bytes → Result Line Fault
words_at words = let len = prefix_len is_solid words in args_at (verb_of (take len words)) (drop len words)

-- what a line says, without its LF
abbrev pub line_at : Bytes → Result Line Fault
line_at line = words_at (without_cr line)

-- ---- what bytes begin with

-- a whole operation and what follows it; less than that; or a fault. The place in a fault is counted from the first byte.
pub data Reading : Type 0 where
  Whole : Op → Bytes → Reading
  Partial : Reading
  Broken : Fault → Reading

-- what follows a payload that ends at the place
abbrev pub ended : Op → ℕ → Bytes → Reading
ended made place [] = Partial
ended made place (b ∷ []) = if b == 13 then Partial else Broken (BadEnd place)
ended made place (b ∷ c ∷ rest) =
    if b == 13 then (if c == 10 then Whole made rest else Broken (BadEnd (place + 1))) else Broken (BadEnd place)

-- a payload of so many bytes, from the place on
abbrev pub payload_at : ℕ → ℕ → (Bytes → Op) → Bytes → Reading
payload_at place size made bytes =
    if nat_lt 1048576 size then Broken (PayloadTooBig size)
    else if nat_lt (length bytes) size then Partial
    else ended (made (take size bytes)) (place + size) (drop size bytes)

-- headers of so many bytes, and then the payload
abbrev pub parted : Bytes → Option Bytes → ℕ → Bytes → Op
parted subject reply header body = op.HPub subject reply (take header body) (drop header body)

-- what a line begins that has so many bytes
abbrev pub behind_line : ℕ → Result Line Fault → Bytes → Reading
behind_line len (Err fault) rest = Broken fault
behind_line len (Ok (ConnectLine text)) rest = Whole (op.Connect text) rest
behind_line len (Ok (PubLine subject reply size)) rest = payload_at len size (op.Pub subject reply) rest
behind_line len (Ok (HPubLine subject reply header size)) rest = payload_at len size (parted subject reply header) rest
behind_line len (Ok (SubLine subject queue sid)) rest = Whole (op.Sub subject queue sid) rest
behind_line len (Ok (UnsubLine sid max)) rest = Whole (op.Unsub sid max) rest
behind_line len (Ok PingLine) rest = Whole op.Ping rest
behind_line len (Ok PongLine) rest = Whole op.Pong rest

-- what the first line begins, of so many bytes
abbrev pub at_line : ℕ → Option (Bytes × Bytes) → Reading
at_line len None = if nat_lt len 4098 then Partial else Broken LineTooLong
at_line len (Some s) = if nat_lt (length s.0) 4098 then behind_line (length s.0 + 1) (line_at s.0) s.1 else Broken LineTooLong

-- what bytes begin with
unfoldable pub op_at : Bytes → Reading
op_at bytes = at_line (length bytes) (split_at 10 bytes)

-- The places of an operation's parts in its bytes.
use Rattle.std.specs.Prelude.{ℕ, ◌≡◌, ◌+◌, ◌-◌, ◌≤◌, length, Option, None, Some, option_map, IfSome, Result, Ok, Err}
use Rattle.js_base.specs.Bytes.{Bytes}
use Rattle.nats_frames.specs.declared.fault.Fault.{Fault}
use Rattle.nats_frames.specs.declared.op.Op.{Op}
use Rattle.nats_frames.specs.declared.op.Op.TheVariants as op
use Rattle.nats_frames.specs.declared.line.Line.{Line as Lent}
use Rattle.nats_frames.specs.declared.line.Line.TheVariants.{Connect, Pub, HPub, Sub, Unsub, Ping, Pong}
use Rattle.nats_frames.specs.declared.shape.Shape.{Shape}
use Rattle.nats_frames.specs.Faults.{reach}
use Rattle.nats_frames.specs.Fields.{span, part, IsWithin}
use Rattle.nats_frames.specs.Grammar.{Line, ConnectLine, PubLine, HPubLine, SubLine, UnsubLine, PingLine, PongLine, counted}

-- what a line says whose fields are there
abbrev pub seen : Bytes → Lent → Line
seen words (Connect text) = ConnectLine (part words text)
seen words (Pub subject reply size) = PubLine (part words subject) (option_map (part words) reply) size
seen words (HPub subject reply header size) = HPubLine (part words subject) (option_map (part words) reply) header size
seen words (Sub subject queue sid) = SubLine (part words subject) (option_map (part words) queue) (part words sid)
seen words (Unsub sid max) = UnsubLine (part words sid) max
seen words Ping = PingLine
seen words Pong = PongLine

-- the fields are within the text, and the headers are not more than all
abbrev pub Stands : Bytes → Lent → Type 0
Stands words (Connect text) = IsWithin words text
Stands words (Pub subject reply size) = IsWithin words subject × IfSome reply (IsWithin words)
Stands words (HPub subject reply header size) = IsWithin words subject × IfSome reply (IsWithin words) × (header ≤ size)
Stands words (Sub subject queue sid) = IsWithin words subject × IfSome queue (IsWithin words) × IsWithin words sid
Stands words (Unsub sid max) = IsWithin words sid
Stands words Ping = Unit {0}
Stands words Pong = Unit {0}

-- the answer as it is read: a fault of a line names no place
abbrev pub Sees : Bytes → Result Lent Fault → Result Line Fault → Type 0
Sees words (Ok line) answer = Stands words line × (answer ≡ Ok (seen words line))
Sees words (Err fault) answer = (answer ≡ Err fault) × (reach fault ≡ 0)

-- the operation of a line of so many bytes, whose parts are there
abbrev pub parts_in : Bytes → Lent → ℕ → Op
parts_in bytes (Connect text) len = op.Connect (part bytes text)
parts_in bytes (Pub subject reply size) len = op.Pub (part bytes subject) (option_map (part bytes) reply) (part bytes (span len size))
parts_in bytes (HPub subject reply header size) len =
    op.HPub (part bytes subject) (option_map (part bytes) reply) (part bytes (span len header)) (part bytes (span (len + header) (size - header)))
parts_in bytes (Sub subject queue sid) len = op.Sub (part bytes subject) (option_map (part bytes) queue) (part bytes sid)
parts_in bytes (Unsub sid max) len = op.Unsub (part bytes sid) max
parts_in bytes Ping len = op.Ping
parts_in bytes Pong len = op.Pong

abbrev pub op_in : Bytes → Shape → Op
op_in bytes shape = parts_in bytes shape.line shape.len

-- the payload is within the bytes
abbrev pub IsInside : Bytes → ℕ → Option ℕ → Type 0
IsInside bytes len None = Unit {0}
IsInside bytes len (Some size) = len + size ≤ length bytes

-- the parts are within the bytes
pub record Fits (bytes : Bytes) (shape : Shape) : Type 0 where
  pub fields : Stands bytes shape.line
  pub payload : IsInside bytes shape.len (counted (seen bytes shape.line))

-- What the body of an acknowledgement says, by JetStream's acknowledgement bodies.
use Rattle.std.specs.Prelude.{ℕ, nat_eq, ◌||◌, drop, length, codes, Option, Some, None, option_map, option_and_then, if◌then◌else◌}
use Rattle.std.specs.List.{starts_with}
use Rattle.std.specs.Option.{option_or}
use Rattle.js_base.specs.Bytes.{Bytes, is_empty, same}
use Rattle.js_model.specs.declared.ack.AckKind.{AckKind}
use Rattle.js_model.specs.declared.ack.AckKind.TheVariants as kinds
use Rattle.ack_parse.specs.Asks.{natural_in, object_in, just, ask_of}

-- what stands behind these words
abbrev pub behind : Bytes → Bytes → Option Bytes
behind words body = if starts_with nat_eq body words then Some (drop (length words) body) else None

-- done, in progress, or never again, for which a reason may stand there
abbrev pub plain_kind : Bytes → Option AckKind
plain_kind body =
    if is_empty body || same body (codes "+ACK") then Some kinds.Ack
    else if same body (codes "+WPI") then Some kinds.Wpi
    else if same body (codes "+TERM") || starts_with nat_eq body (codes "+TERM ") then Some kinds.Term
    else None

-- the nanoseconds that an object says, 0 if it does not
unfoldable pub delay_of : Bytes → Option ℕ
delay_of object = option_and_then (λ fields. natural_in (codes "delay") fields) (object_in object)

-- once more, at once or after a delay
abbrev pub nak_kind : Bytes → Option AckKind
nak_kind body =
    if same body (codes "-NAK") then Some (kinds.Nak 0)
    else option_and_then (λ object. option_map kinds.Nak (delay_of object)) (behind (codes "-NAK ") body)

-- done, and a pull
abbrev pub next_kind : Bytes → Option AckKind
next_kind body =
    if same body (codes "+NXT") then Some (kinds.Next (just 1))
    else option_and_then (λ text. option_map kinds.Next (ask_of text)) (behind (codes "+NXT ") body)

-- what the body says; none if it is of no form
unfoldable pub kind_of : Bytes → Option AckKind
kind_of body = option_or (plain_kind body) (option_or (nak_kind body) (next_kind body))

-- Which texts stand in a JSON text as they are, by RFC 8259: the host that the server's information tells is such a one.
use Rattle.std.specs.Prelude.{ℕ, Bool, nat_le, nat_lt, not, ◌&&◌, ◌==◌}
use Rattle.std.specs.List.{list_all}
use Rattle.js_base.specs.Bytes.{Bytes}

-- a printable byte of ASCII but for the quotation mark and the backslash
abbrev pub needs_no_escape : ℕ → Bool
needs_no_escape byte = nat_le 32 byte && nat_lt byte 127 && not (byte == 34) && not (byte == 92)

abbrev pub is_plain : Bytes → Bool
is_plain text = list_all needs_no_escape text

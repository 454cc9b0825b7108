-- Numbers of a fixed width, the most significant byte first.
use Rattle.std.specs.Prelude.{ℕ, ◌+◌, nat_le, length, take, drop, Option, Some, None, if◌then◌else◌}
use Rattle.std.specs.Int.{Width, byte_len, from_be_bytes}
use Rattle.js_base.specs.Bytes.{Bytes}

-- the number of this width that begins at the place, if the bytes hold all of it
abbrev pub number_at : Width → Bytes → ℕ → Option ℕ
number_at w bytes at =
    if nat_le (at + byte_len w) (length bytes) then Some (from_be_bytes w (take (byte_len w) (drop at bytes))) else None

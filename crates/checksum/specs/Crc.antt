-- CRC-32C: the cyclic redundancy check of 32 bits with Castagnoli's polynomial, as RFC 3720 has it. A register takes in the bits of the bytes
-- one by one, of each byte the lowest first.
use Rattle.std.specs.Prelude.{ℕ, zero, suc, ◌/◌, ◌%◌, ◌==◌, List, [], ◌∷◌, bit_xor, if◌then◌else◌}
use Rattle.std.specs.Int.{w32, bit_not}
use Rattle.js_base.specs.Bytes.{Bytes}

-- The polynomial of degree 32, without its highest term: the coefficient of the constant term is the highest bit.
abbrev pub polynomial : ℕ
polynomial = 0x82F63B78

-- the register after one bit: its lowest bit falls out, and if that is 1, the polynomial is subtracted
unfoldable pub after_bit : ℕ → ℕ
after_bit register = if register % 2 == 1 then bit_xor (register / 2) polynomial else register / 2

-- after so many bits
unfoldable pub after_bits : ℕ → ℕ → ℕ
after_bits zero register = register
after_bits (suc n) register = after_bits n (after_bit register)

-- after a byte, whose eight bits are added to the lowest eight of the register
unfoldable pub after_byte : ℕ → ℕ → ℕ
after_byte register byte = after_bits 8 (bit_xor register byte)

-- after these bytes
unfoldable pub added : ℕ → Bytes → ℕ
added register [] = register
added register (byte ∷ bytes) = added (after_byte register byte) bytes

-- the register before the first byte: 32 ones
unfoldable pub started : ℕ
started = 0xFFFFFFFF

-- the checksum that a register stands for: its complement
unfoldable pub finished : ℕ → ℕ
finished register = bit_not w32 register

-- the checksum of the bytes
abbrev pub crc32c : Bytes → ℕ
crc32c bytes = finished (added started bytes)

-- Bytes behind their length and their checksum.
use Rattle.std.proofs.Common.{◌≡◌, ◌+◌, ◌++◌, ℕ, length, refl, arith, length-append}
use Rattle.std.specs.Int.{w32, to_be_bytes}
use Rattle.js_base.specs.Bytes.{Bytes}
use Rattle.checksum.specs.Crc.{crc32c}
use Rattle.checksum.specs.Checked.{checked}

length-four : (n : ℕ) → length (to_be_bytes w32 n) ≡ 4
length-four n = refl

pub length-checked : (bytes : Bytes) → length (checked bytes) ≡ 8 + length bytes
length-checked bytes =
    omega (arith, length-append (to_be_bytes w32 (length bytes)) (to_be_bytes w32 (crc32c bytes) ++ bytes), length-append (to_be_bytes w32 (crc32c bytes)) bytes, length-four (length bytes), length-four (crc32c bytes))

pub checked-append : (bytes more : Bytes) → checked bytes ++ more ≡ to_be_bytes w32 (length bytes) ++ (to_be_bytes w32 (crc32c bytes) ++ (bytes ++ more))
checked-append bytes more = refl

-- Checksums of RFC 3720, and the one that is commonly given for this check.
use Rattle.std.proofs.Common.{◌≡◌, [], ◌∷◌, refl}
use Rattle.std.specs.Prelude.{replicate}
use Rattle.checksum.specs.Crc.{after_bit, after_bits, after_byte, added, started, finished, crc32c}

-- of no bytes
none : crc32c [] ≡ 0
unfolding added started finished
none = refl

-- of `123456789`
digits : crc32c (49 ∷ 50 ∷ 51 ∷ 52 ∷ 53 ∷ 54 ∷ 55 ∷ 56 ∷ 57 ∷ []) ≡ 0xE3069283
unfolding after_bit after_bits after_byte added started finished
digits = refl

-- of 32 bytes of 0, and of 32 bytes of 255
zeros : crc32c (replicate 32 0) ≡ 0x8A9136AA
unfolding after_bit after_bits after_byte added started finished
zeros = refl

ones : crc32c (replicate 32 255) ≡ 0x62A8AB43
unfolding after_bit after_bits after_byte added started finished
ones = refl

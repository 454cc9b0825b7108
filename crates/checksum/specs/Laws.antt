-- That bytes may be added piece by piece, and that a checksum has 32 bits.
use Rattle.std.specs.Prelude.{◌≡◌, ℕ, ◌<◌, ◌^◌, ◌++◌}
use Rattle.js_base.specs.Bytes.{Bytes}
use Rattle.checksum.specs.Crc.{added, crc32c}

pub record LawChecksum : Type 0 where
  pub pieces : (register : ℕ) (a b : Bytes) → added (added register a) b ≡ added register (a ++ b)
  pub bits : (bytes : Bytes) → crc32c bytes < 2 ^ 32

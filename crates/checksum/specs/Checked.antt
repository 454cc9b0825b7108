-- Bytes behind their length and their checksum. Own.
use Rattle.std.specs.Prelude.{◌++◌, length}
use Rattle.std.specs.Int.{w32, to_be_bytes}
use Rattle.js_base.specs.Bytes.{Bytes}
use Rattle.checksum.specs.Crc.{crc32c}

abbrev pub checked : Bytes → Bytes
checked bytes = to_be_bytes w32 (length bytes) ++ (to_be_bytes w32 (crc32c bytes) ++ bytes)

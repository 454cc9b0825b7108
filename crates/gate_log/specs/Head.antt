-- The head of a log file, 20 bytes: a mark, the version of its format, its generation, and the checksum of these three. Own.
use Rattle.std.specs.Prelude.{ℕ, [], ◌∷◌, ◌++◌}
use Rattle.std.specs.Int.{w16, w32, w64, to_be_bytes}
use Rattle.js_base.specs.Bytes.{Bytes}
use Rattle.checksum.specs.Crc.{crc32c}

-- `JSLOG` and a byte 0
abbrev pub mark : Bytes
mark = 74 ∷ 83 ∷ 76 ∷ 79 ∷ 71 ∷ 0 ∷ []

-- the version of the format that is written, and the only one that is read
abbrev pub version : ℕ
version = 3

-- the mark, the version and the generation
abbrev pub title : ℕ → Bytes
title generation = mark ++ to_be_bytes w16 version ++ to_be_bytes w64 generation

-- the head of a log of this generation
abbrev pub head : ℕ → Bytes
head generation = title generation ++ to_be_bytes w32 (crc32c (title generation))

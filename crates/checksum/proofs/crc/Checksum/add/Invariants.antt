use Rattle.std.proofs.Common.{◌≡◌, drop}
use Rattle.checksum.specs.Crc.{added}
use Rattle.checksum.proofs.crc.Checksum.add.Given as goal

-- the bytes that are left lead to the same register
abbrev pub invariant-loop-byte : goal.invariant-loop-byte
invariant-loop-byte l = added l.self-inside.register (drop l.byte-index l.bytes) ≡ added l.fn.self l.bytes

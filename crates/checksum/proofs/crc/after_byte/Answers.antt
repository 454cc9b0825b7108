use Rattle.std.proofs.Common.{◌∙◌, ℕ, ap}
use lib.Bits.{bit_xor}
use Rattle.checksum.specs.Crc.{after_bits, after_byte}
use Rattle.checksum.proofs.Registers.{nibble_twice}
use Rattle.checksum.proofs.crc.after_byte.Goals as goal

pub returns : goal.returns
unfolding after_byte
returns c = c.after_nibble-2.ensures ∙ ap (λ (n : ℕ). after_bits 4 n) c.after_nibble.ensures ∙ nibble_twice (bit_xor c.args.register c.args.byte)

use Rattle.std.proofs.Common.{◌∙◌, ◌/◌, ◌%◌, ℕ, get_or, sym, ap, arith}
use Rattle.std.proofs.lemmas.Nat.{and_mask, mod_below}
use lib.Bits.{bit_xor}
use Rattle.checksum.proofs.Linear.{after_low_bits}
use Rattle.checksum.proofs.Registers.{nibbles, in_nibbles}
use Rattle.checksum.proofs.crc.after_nibble.Goals as goal

pub returns : goal.returns
returns c =
    ap (λ (n : ℕ). bit_xor (c.args.register / 16) (get_or nibbles n 0)) (and_mask c.args.register 4)
    ∙ ap (λ (n : ℕ). bit_xor (c.args.register / 16) n) (in_nibbles (c.args.register % 16) (mod_below c.args.register 16 (omega arith)))
    ∙ sym (after_low_bits 4 c.args.register (omega arith))

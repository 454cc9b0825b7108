use Rattle.std.proofs.Common.{◌∙◌, ◌+◌, ℕ, drop, sym, ap, arith}
use Rattle.checksum.specs.Crc.{added}
use Rattle.checksum.proofs.Registers.{added_more, added_all}
use Rattle.checksum.proofs.crc.Checksum.add.Goals as goal

pub loop-byte-preserved : goal.loop-byte-preserved
loop-byte-preserved c =
    ap (λ (n : ℕ). added n (drop (c.loop-byte.byte-index + 1) c.args.bytes.now)) c.after_byte-self-inside.ensures
    ∙ sym (added_more c.loop-byte.self-inside.register c.args.bytes.now c.loop-byte.byte-index (omega arith)) ∙ c.loop-byte.invariant

pub returns : goal.returns
returns c = record {
  value = sym (added_all c.loop-byte.self-inside.register c.args.bytes.now c.loop-byte.byte-index (omega arith)) ∙ c.loop-byte.invariant;
}

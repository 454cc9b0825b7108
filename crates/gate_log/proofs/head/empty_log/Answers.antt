use Rattle.std.proofs.Common.{◌∙◌}
use Rattle.gate_log.proofs.Heads.{empty_log_is}
use Rattle.gate_log.proofs.head.empty_log.Goals as goal

pub returns : goal.returns
returns c = record {
  bytes =
      empty_log_is c.args.generation c.crc32c-sum.result c.copy_from_slice.new.self c.copy_from_slice-2.new.self c.copy_from_slice-3.new.self c.copy_from_slice-4.new.self
      c.copy_from_slice.ensures.after (c.copy_from_slice-2.ensures.after ∙ c.to_be_bytes.ensures) (c.copy_from_slice-3.ensures.after ∙ c.to_be_bytes-2.ensures) c.crc32c-sum.ensures.value (c.copy_from_slice-4.ensures.after ∙ c.to_be_bytes-3.ensures);
}

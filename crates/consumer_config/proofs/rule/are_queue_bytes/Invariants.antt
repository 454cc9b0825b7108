use Rattle.std.proofs.Common.{◌≡◌, drop}
use Rattle.std.specs.List.{list_all}
use Rattle.js_model.specs.Configs.{is_queue_byte}
use Rattle.consumer_config.proofs.rule.are_queue_bytes.Given as goal

-- the bytes that are left decide
abbrev pub invariant-loop-byte : goal.invariant-loop-byte
invariant-loop-byte l = list_all is_queue_byte l.text ≡ list_all is_queue_byte (drop l.byte-index l.text)

use Rattle.std.proofs.Common.{ℕ, ◌<◌}
use Rattle.std.proofs.lemmas.List.Elements.{All-from_get_or}
use Rattle.block_writing.proofs.writing.law_bytes.Goals as goal

pub returns : goal.returns
returns c = All-from_get_or (λ (byte : ℕ). byte < 256) c.args.bytes.now 0 (λ k within. (c.type_inv.bytes k).fits)

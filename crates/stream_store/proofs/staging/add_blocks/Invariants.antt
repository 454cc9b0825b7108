use Rattle.std.proofs.Common.{◌≡◌, ◌++◌, take}
use Rattle.stream_store.proofs.staging.add_blocks.Given as goal

abbrev pub invariant-loop-block : goal.invariant-loop-block
invariant-loop-block l = l.into.items ≡ l.fn.into.items ++ take l.block-index l.blocks

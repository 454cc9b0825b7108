use Rattle.std.proofs.Common.{◌≡◌, ◌++◌, map, take}
use Rattle.stream_store.specs.Staging.{block_of}
use Rattle.stream_store.proofs.staging.add_files.Given as goal

abbrev pub invariant-loop-run : goal.invariant-loop-run
invariant-loop-run l = l.into.items ≡ l.fn.into.items ++ map block_of (take l.run-index l.runs)

use Rattle.std.proofs.Common.{◌≤◌, arith, subst, sym}
use Rattle.std.proofs.lemmas.List.Elements.{All-nil}
use Rattle.block_table.specs.declared.block.Block.{Block}
use Rattle.stream_store.specs.Rooms.{AreLogsShort}
use Rattle.stream_store.specs.Staging.{AreBehindLogs}
use Rattle.stream_store.proofs.store.Store.with_table.Goals as goal

pub invariant_of-result : goal.invariant_of-result
invariant_of-result c =
    (c.requires.head, (subst AreBehindLogs (sym c.new-2.ensures.items) (All-nil (λ (k : Block). 2 ≤ k.file)), subst AreLogsShort (sym c.none.ensures.value) (record { zero = omega arith; one = omega arith })))

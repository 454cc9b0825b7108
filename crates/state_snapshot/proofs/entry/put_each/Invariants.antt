use Rattle.std.proofs.Common.{◌≡◌, ◌++◌, take}
use Rattle.std.specs.List.{flat_map}
use Rattle.state_snapshot.proofs.entry.put_each.Given as goal

abbrev pub invariant-loop-entry : goal.invariant-loop-entry
invariant-loop-entry g l = l.into.items ≡ l.fn.into.items ++ flat_map g.T.Entry.spelling (take l.entry-index l.entries)

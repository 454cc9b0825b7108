use Rattle.std.proofs.Common.{None}
use Rattle.pending_table.specs.Asked.{IsWithin}
use Rattle.pending_table.specs.Quiet.{IsQuiet}
use Rattle.pending_table.specs.Trees.{listed}
use Rattle.pending_table.proofs.Around.{all_map}
use Rattle.pending_table.proofs.tree.Tree.+next_after.Goals as goal

pub returns-then-not-may_have_after-clause-quiet : goal.returns-then-not-may_have_after-clause-quiet
returns-then-not-may_have_after-clause-quiet t c =
    let f = c.in-Fork.fork.value in
    rw c.in-Fork.is
    (all_map (IsWithin f.bounds) (IsQuiet c.args.now None) (rw c.deref.ensures at c.if-not-may_have_after.ensures.none) (listed f) (rw c.in-Fork.is at c.requires.bounded).0)

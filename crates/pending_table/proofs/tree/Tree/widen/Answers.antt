use Rattle.pending_table.specs.Asked.{IsWithin}
use Rattle.pending_table.specs.Trees.{listed}
use Rattle.pending_table.proofs.Around.{all_map}
use Rattle.pending_table.proofs.tree.Tree.widen.Goals as goal

pub returns-in-Fork-clause-here : goal.returns-in-Fork-clause-here
returns-in-Fork-clause-here c =
    rw c.in-Fork.is
    (all_map (IsWithin c.in-Fork.fork.value.bounds) (IsWithin c.and.result) (rw c.deref.ensures at c.and.ensures.others) (listed c.in-Fork.fork.value) (rw c.in-Fork.is at c.requires.bounded).0)

use Rattle.std.proofs.Common.{◌+◌, ◌<◌, ◌^◌, ap, length, sym, ◌∙◌}
use Rattle.pending_table.specs.declared.tree.Fork.{Fork}
use Rattle.pending_table.specs.Trees.{entries}
use Rattle.pending_table.proofs.Around.{ordered, lacks}
use Rattle.pending_table.proofs.Tables.{put_table}
use Rattle.pending_table.proofs.table.PendingTable.insert.Goals as goal

pub insert-requires-clause-ordered : goal.insert-requires-clause-ordered
insert-requires-clause-ordered c = ordered c.self.inside.tree c.self.invariant.ascending

pub insert-requires-clause-absent : goal.insert-requires-clause-absent
insert-requires-clause-absent c = lacks c.args.leaf.value.entry.seq c.self.inside.tree (rw c.self.view_is c.requires.absent)

pub invariant_of-self : goal.invariant_of-self
invariant_of-self c =
    let i = c.self.inside in
    let room : length (entries i.tree) + 1 < 2 ^ 32 = rw c.self.view_is c.requires.room in
    let here = c.and-self-inside.ensures.here c.args.leaf.value.entry (sym (c.due.ensures.value ∙ ap (λ (f : Fork). f.entry.due) c.deref-2.ensures)) in
    rw (c.again_of.ensures.value, c.count.ensures.value, c.deref.ensures)
    (put_table i.tree c.insert.new.self i.len i.again i.outlook c.and-self-inside.result c.self.invariant c.insert.ensures.bounded c.and-self-inside.ensures.others c.args.leaf.value.entry here (rw c.self.view_is c.requires.absent) room c.insert.ensures.entries)

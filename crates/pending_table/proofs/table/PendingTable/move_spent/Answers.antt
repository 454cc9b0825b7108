use Rattle.std.proofs.Common.{sym, ap, ◌∙◌, arith}
use Rattle.pending_table.specs.Asked.{is_spent, with_found}
use Rattle.pending_table.proofs.Changed.{any_found, any_none, none_found}
use Rattle.pending_table.proofs.Moved.{apart_found, found_length}
use Rattle.pending_table.proofs.table.PendingTable.move_spent.Goals as goal

pub insert-requires-clause-leaf : goal.insert-requires-clause-leaf
insert-requires-clause-leaf c = c.in-Some.ensures.leaf

pub insert-requires-clause-absent : goal.insert-requires-clause-absent
insert-requires-clause-absent c = apart_found (is_spent c.args.now c.args.max) c.args.self.now c.args.into.now c.in-Some.leaf.value.entry (sym c.in-Some.ensures.taken) c.requires.apart

pub insert-requires-clause-room : goal.insert-requires-clause-room
insert-requires-clause-room c = omega (arith, found_length (is_spent c.args.now c.args.max) c.in-Some.leaf.value.entry c.args.self.now (sym c.in-Some.ensures.taken), c.requires.room)

pub returns-in-Some-clause-is : goal.returns-in-Some-clause-is
returns-in-Some-clause-is c = sym (any_found (is_spent c.args.now c.args.max) c.args.self.now c.in-Some.leaf.value.entry (sym c.in-Some.ensures.taken))

pub returns-in-Some-clause-moved : goal.returns-in-Some-clause-moved
returns-in-Some-clause-moved c = c.insert.ensures.value ∙ ap (with_found c.args.into.now) c.in-Some.ensures.taken

pub returns-in-None-clause-is : goal.returns-in-None-clause-is
returns-in-None-clause-is c =
    let test = is_spent c.args.now c.args.max in
    sym (any_none test c.args.self.now (none_found test c.args.self.now (sym c.in-None.ensures.taken)))

pub returns-in-None-clause-moved : goal.returns-in-None-clause-moved
returns-in-None-clause-moved c = ap (with_found c.args.into.now) c.in-None.ensures.taken

use Rattle.std.proofs.Common.{◌≡◌, ◌≤◌, ◌+◌, ◌-◌, refl, sym, ◌∙◌, arith}
use Rattle.js_model.specs.declared.consumer.Pending.{Pending}
use Rattle.pending_table.specs.Trees.{entries}
use Rattle.pending_table.proofs.Around.{ordered}
use Rattle.pending_table.proofs.Changed.{put_replaced}
use Rattle.pending_table.proofs.Tables.{weight, replaced_table, weight_within}
use Rattle.pending_table.proofs.table.PendingTable.put.Goals as goal

pub get-requires : goal.get-requires
get-requires c = record { ordered = ordered c.self.inside.tree c.self.invariant.ascending }

pub overflow_sub-self : goal.overflow_sub-self
overflow_sub-self c =
    let i = c.self.inside in
    let within : weight c.in-Some.old ≤ i.again = weight_within i.tree i.len i.again i.outlook c.self.invariant c.args.seq c.in-Some.old (sym c.get.ensures.value ∙ c.in-Some.is) in
    rw c.again_of.ensures.value within

pub replace-requires-clause-ordered : goal.replace-requires-clause-ordered
replace-requires-clause-ordered c = ordered c.self.inside.tree c.self.invariant.ascending

pub invariant_of-self : goal.invariant_of-self
invariant_of-self c =
    let i = c.self.inside in
    let e : Pending = record { seq = c.args.seq; count = c.args.count; due = c.args.due } in
    let old = c.in-Some.old in
    let found = sym c.get.ensures.value ∙ c.in-Some.is in
    let within : weight old ≤ i.again = weight_within i.tree i.len i.again i.outlook c.self.invariant c.args.seq old found in
    let before : c.again_of.result ≡ weight old = c.again_of.ensures.value in
    let after : c.again_of-in-Some.result ≡ weight e = c.again_of-in-Some.ensures.value in
    let sum : i.again - c.again_of.result + c.again_of-in-Some.result + weight old ≡ i.again + weight e = omega (arith, within, before, after) in
    replaced_table i.tree c.replace.new.self i.len i.again i.outlook c.and-self-inside.result c.self.invariant c.replace.ensures.bounded c.and-self-inside.ensures.others e old (c.and-self-inside.ensures.here e refl) found c.replace.ensures.entries _ sum

pub insert-requires-clause-leaf : goal.insert-requires-clause-leaf
insert-requires-clause-leaf c = c.in_ok-leaf-in-None.ensures.leaf.1

pub insert-requires-clause-absent : goal.insert-requires-clause-absent
insert-requires-clause-absent c = rw c.in_ok-leaf-in-None.ensures.leaf.0 (rw (← c.self.view_is) (sym c.get.ensures.value ∙ c.in-None.is))

pub returns-in-Some-clause-ok : goal.returns-in-Some-clause-ok
returns-in-Some-clause-ok c =
    let i = c.self.inside in
    let e : Pending = record { seq = c.args.seq; count = c.args.count; due = c.args.due } in
    rw (← c.self.view_is) (c.replace.ensures.entries ∙ put_replaced e c.in-Some.old (entries i.tree) c.self.invariant.ascending (sym c.get.ensures.value ∙ c.in-Some.is))

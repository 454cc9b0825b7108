use Rattle.std.proofs.Common.{◌==◌, refl, sym, ◌∙◌}
use Rattle.js_model.specs.declared.consumer.Pending.{Pending}
use Rattle.pending_table.specs.Trees.{entries}
use Rattle.pending_table.proofs.Around.{ordered}
use Rattle.pending_table.proofs.Changed.{any_found, any_none, none_found, nothing_moved, moved_replaced}
use Rattle.pending_table.proofs.Tables.{own, replaced_table}
use Rattle.pending_table.proofs.table.PendingTable.set_due.Goals as goal

pub get-requires : goal.get-requires
get-requires c = record { ordered = ordered c.self.inside.tree c.self.invariant.ascending }

pub returns-in_default-clause-is : goal.returns-in_default-clause-is
returns-in_default-clause-is c =
    let ps = entries c.self.inside.tree in
    rw (← c.self.view_is) (sym (any_none (λ p. p.seq == c.args.seq) ps (none_found (λ p. p.seq == c.args.seq) ps (sym c.get.ensures.value ∙ c.in_default.is))))

pub returns-in_default-clause-value : goal.returns-in_default-clause-value
returns-in_default-clause-value c = rw (← c.self.view_is) (sym (nothing_moved c.args.seq c.args.due (entries c.self.inside.tree) (sym c.get.ensures.value ∙ c.in_default.is)))

pub replace-requires-clause-ordered : goal.replace-requires-clause-ordered
replace-requires-clause-ordered c = ordered c.self.inside.tree c.self.invariant.ascending

pub invariant_of-self : goal.invariant_of-self
invariant_of-self c =
    let i = c.self.inside in
    let e = c.in-Some.entry in
    let changed : Pending = record e { due = c.args.due } in
    let found = own c.args.seq (entries i.tree) e (sym c.get.ensures.value ∙ c.in-Some.is) in
    replaced_table i.tree c.replace.new.self i.len i.again i.outlook c.and-self-inside.result c.self.invariant c.replace.ensures.bounded c.and-self-inside.ensures.others changed e (c.and-self-inside.ensures.here changed refl) found c.replace.ensures.entries i.again refl

pub returns-clause-is : goal.returns-clause-is
returns-clause-is c = rw (← c.self.view_is) (sym (any_found (λ p. p.seq == c.args.seq) (entries c.self.inside.tree) c.in-Some.entry (sym c.get.ensures.value ∙ c.in-Some.is)))

pub returns-clause-value : goal.returns-clause-value
returns-clause-value c =
    rw (← c.self.view_is)
    (c.replace.ensures.entries ∙ moved_replaced c.args.seq c.args.due c.in-Some.entry (entries c.self.inside.tree) c.self.invariant.ascending (sym c.get.ensures.value ∙ c.in-Some.is))

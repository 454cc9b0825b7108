use Rattle.std.proofs.Common.{◌≡◌, ◌≤◌, ◌+◌, ◌-◌, ◌==◌, sym, ap, ◌∙◌, arith}
use Rattle.pending_table.specs.Trees.{entries, entry_of}
use Rattle.pending_table.proofs.Around.{ordered, filter_same}
use Rattle.pending_table.proofs.Changed.{none_found}
use Rattle.pending_table.proofs.Tables.{weight, removed_table, some_there, weight_within}
use Rattle.pending_table.proofs.table.PendingTable.take.Goals as goal

pub get-requires : goal.get-requires
get-requires c = record { ordered = ordered c.self.inside.tree c.self.invariant.ascending }

pub returns-in_err-entry-clause-taken : goal.returns-in_err-entry-clause-taken
returns-in_err-entry-clause-taken c = rw (← c.self.view_is) (ap entry_of c.from_residual.ensures ∙ sym c.in_err-entry.was ∙ c.get.ensures.value)

pub returns-in_err-entry-clause-left : goal.returns-in_err-entry-clause-left
returns-in_err-entry-clause-left c =
    let ps = entries c.self.inside.tree in
    rw (← c.self.view_is) (sym (filter_same (λ p. p.seq == c.args.seq) ps (none_found (λ p. p.seq == c.args.seq) ps (sym c.get.ensures.value ∙ c.in_err-entry.was))))

pub overflow_sub-self-2 : goal.overflow_sub-self-2
overflow_sub-self-2 c =
    let i = c.self.inside in
    rw c.again_of.ensures.value (weight_within i.tree i.len i.again i.outlook c.self.invariant c.args.seq c.in_ok-entry.entry (sym c.get.ensures.value ∙ c.in_ok-entry.was))

pub take-requires-clause-ordered : goal.take-requires-clause-ordered
take-requires-clause-ordered c = ordered c.self.inside.tree c.self.invariant.ascending

pub invariant_of-self : goal.invariant_of-self
invariant_of-self c =
    let i = c.self.inside in
    let e = c.in_ok-entry.entry in
    let found = sym c.get.ensures.value ∙ c.in_ok-entry.was in
    let within : weight e ≤ i.again = weight_within i.tree i.len i.again i.outlook c.self.invariant c.args.seq e found in
    let some : 1 ≤ i.len = some_there i.tree i.len i.again i.outlook c.self.invariant c.args.seq e found in
    let weight_is : c.again_of.result ≡ weight e = c.again_of.ensures.value in
    let lens : i.len - 1 + 1 ≡ i.len = omega (arith, some) in
    let agains : i.again - c.again_of.result + weight e ≡ i.again = omega (arith, within, weight_is) in
    removed_table i.tree c.take.new.self i.len i.again i.outlook i.outlook c.self.invariant c.take.ensures.bounded (λ p h. h) c.args.seq e found c.take.ensures.left _ _ lens agains

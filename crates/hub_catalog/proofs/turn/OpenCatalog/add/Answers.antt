use Rattle.js_model.specs.Catalog.{Add}
use Rattle.js_model.specs.Cataloging.{add_told}
use Rattle.hub_catalog.proofs.Adds.{add_settled, add_single, add_text, add_within}
use Rattle.hub_catalog.proofs.Called.{called, open_called, stands_places}
use Rattle.hub_catalog.proofs.turn.OpenCatalog.add.Goals as goal

pub invariant_of-self : goal.invariant_of-self
invariant_of-self c =
    let turn = c.self.inside in
    open_called turn.held.seat turn.entries.value turn.held.value c.add_named-added.new.catalog (Add c.args.name.now c.args.subjects.now) (add_told c.add_named-added.result) c.one_more.result.value c.self.invariant c.one_more.ensures.value
    c.add_named-added.ensures.added

pub returns-clause-called : goal.returns-clause-called
returns-clause-called c =
    let turn = c.self.inside in
    rw (← c.self.view_is)
    (called turn.held.seat turn.entries.value turn.held.value c.add_named-added.new.catalog (Add c.args.name.now c.args.subjects.now) (add_told c.add_named-added.result) c.one_more.result.value c.self.invariant c.one_more.ensures.value
    c.add_named-added.ensures.added)

pub returns-clause-within : goal.returns-clause-within
returns-clause-within c =
    let turn = c.self.inside in
    rw (← c.self.view_is)
    (add_within c.args.name.now c.args.subjects.now turn.held.value c.add_named-added.new.catalog c.add_named-added.result _ c.add_named-added.ensures.added
    (stands_places turn.held.seat.opening _ turn.held.value c.self.invariant.stands))

pub returns-clause-settled : goal.returns-clause-settled
returns-clause-settled c = add_settled c.args.name.now c.args.subjects.now c.self.inside.held.value c.add_named-added.new.catalog c.add_named-added.result c.add_named-added.ensures.added

pub returns-clause-single : goal.returns-clause-single
returns-clause-single c = rw (← c.self.view_is) (add_single c.args.name.now c.args.subjects.now c.self.inside.held.value c.add_named-added.new.catalog c.add_named-added.result c.add_named-added.ensures.added c.add_named-added.ensures.err)

pub returns-clause-text : goal.returns-clause-text
returns-clause-text c = add_text c.args.name.now c.args.subjects.now (add_told c.add_named-added.result) c.self.inside.held.value c.add_named-added.new.catalog c.add_named-added.ensures.added

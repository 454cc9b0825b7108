use Rattle.js_model.specs.Catalog.{Change}
use Rattle.js_model.specs.Cataloging.{change_told}
use Rattle.hub_catalog.proofs.Adds.{change_text}
use Rattle.hub_catalog.proofs.Singles.{change_changing, change_single, settled_single}
use Rattle.hub_catalog.proofs.Called.{called, open_called}
use Rattle.hub_catalog.proofs.turn.OpenCatalog.change.Goals as goal

pub invariant_of-self : goal.invariant_of-self
invariant_of-self c =
    let turn = c.self.inside in
    open_called turn.held.seat turn.entries.value turn.held.value c.change-changed.new.self (Change c.args.at.place c.args.subjects.now) (change_told c.change-changed.result) c.one_more.result.value c.self.invariant c.one_more.ensures.value
    c.change-changed.ensures.changed

pub returns-clause-called : goal.returns-clause-called
returns-clause-called c =
    let turn = c.self.inside in
    rw (← c.self.view_is)
    (called turn.held.seat turn.entries.value turn.held.value c.change-changed.new.self (Change c.args.at.place c.args.subjects.now) (change_told c.change-changed.result) c.one_more.result.value c.self.invariant c.one_more.ensures.value
    c.change-changed.ensures.changed)

pub change-changed-requires : goal.change-changed-requires
change-changed-requires c = record { single = settled_single c.self.inside.held.value c.args.at (rw (← c.self.view_is) at c.requires.settled) }

pub returns-clause-changing : goal.returns-clause-changing
returns-clause-changing c =
    change_changing c.self.inside.held.value c.change-changed.new.self c.args.at c.args.subjects.now c.change-changed.result c.change-changed.ensures.changed (rw (← c.self.view_is) at c.requires.settled)

pub returns-clause-single : goal.returns-clause-single
returns-clause-single c = rw (← c.self.view_is) (change_single c.self.inside.held.value c.change-changed.new.self c.args.at c.args.subjects.now c.change-changed.result c.change-changed.ensures.changed c.change-changed.ensures.err)

pub returns-clause-text : goal.returns-clause-text
returns-clause-text c = change_text c.args.at.place c.args.subjects.now (change_told c.change-changed.result) c.self.inside.held.value c.change-changed.new.self c.change-changed.ensures.changed

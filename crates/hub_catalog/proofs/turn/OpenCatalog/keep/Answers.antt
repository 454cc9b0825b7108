use Rattle.std.proofs.Common.{inl}
use Rattle.js_model.specs.Catalog.{Keep, Done}
use Rattle.hub_catalog.proofs.Singles.{keep_single}
use Rattle.hub_catalog.proofs.Called.{called, open_called}
use Rattle.hub_catalog.proofs.turn.OpenCatalog.keep.Goals as goal

pub invariant_of-self : goal.invariant_of-self
invariant_of-self c =
    let turn = c.self.inside in
    open_called turn.held.seat turn.entries.value turn.held.value c.keep.new.self (Keep c.args.place c.args.new) Done c.one_more.result.value c.self.invariant c.one_more.ensures.value
    (inl c.keep.ensures.kept)

pub returns-clause-called : goal.returns-clause-called
returns-clause-called c =
    let turn = c.self.inside in
    rw (← c.self.view_is)
    (called turn.held.seat turn.entries.value turn.held.value c.keep.new.self (Keep c.args.place c.args.new) Done c.one_more.result.value c.self.invariant c.one_more.ensures.value
    (inl c.keep.ensures.kept))

pub keep-requires : goal.keep-requires
keep-requires c = record { both = rw (← c.self.view_is) at c.requires.both }

pub returns-clause-single : goal.returns-clause-single
returns-clause-single c = rw (← c.self.view_is) (keep_single _ _ c.args.place c.args.new c.keep.ensures.kept)

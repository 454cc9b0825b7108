use Rattle.std.proofs.Common.{inl}
use Rattle.js_model.specs.Catalog.{Stop, Done}
use Rattle.hub_catalog.proofs.Singles.{stop_single}
use Rattle.hub_catalog.proofs.Called.{called, open_called}
use Rattle.hub_catalog.proofs.turn.OpenCatalog.stop.Goals as goal

pub invariant_of-self : goal.invariant_of-self
invariant_of-self c =
    let turn = c.self.inside in
    open_called turn.held.seat turn.entries.value turn.held.value c.stop.new.self (Stop c.args.place) Done c.one_more.result.value c.self.invariant c.one_more.ensures.value
    (inl c.stop.ensures.stopped)

pub returns-clause-called : goal.returns-clause-called
returns-clause-called c =
    let turn = c.self.inside in
    rw (← c.self.view_is)
    (called turn.held.seat turn.entries.value turn.held.value c.stop.new.self (Stop c.args.place) Done c.one_more.result.value c.self.invariant c.one_more.ensures.value
    (inl c.stop.ensures.stopped))

pub stop-requires : goal.stop-requires
stop-requires c = record { used = rw (← c.self.view_is) at c.requires.used }

pub returns-clause-single : goal.returns-clause-single
returns-clause-single c = rw (← c.self.view_is) (stop_single _ _ c.args.place c.stop.ensures.stopped)

use Rattle.std.proofs.Common.{◌<◌, ℕ, IfSome, inl, subst}
use Rattle.js_model.specs.Catalog.{At}
use Rattle.hub_catalog.specs.Calls.{look_call}
use Rattle.hub_catalog.proofs.Called.{called, open_called, stands_places}
use Rattle.hub_catalog.proofs.turn.OpenCatalog.look.Goals as goal

pub invariant_of-self : goal.invariant_of-self
invariant_of-self c =
    let turn = c.self.inside in
    open_called turn.held.seat turn.entries.value turn.held.value c.self.inside.held.value (look_call c.args.look) (At c.make-found.result) c.one_more.result.value c.self.invariant c.one_more.ensures.value
    (inl c.make-found.ensures.found)

pub returns-clause-called : goal.returns-clause-called
returns-clause-called c =
    let turn = c.self.inside in
    rw (← c.self.view_is)
    (called turn.held.seat turn.entries.value turn.held.value c.self.inside.held.value (look_call c.args.look) (At c.make-found.result) c.one_more.result.value c.self.invariant c.one_more.ensures.value
    (inl c.make-found.ensures.found))

pub returns-clause-within : goal.returns-clause-within
returns-clause-within c =
    let turn = c.self.inside in
    rw (← c.self.view_is)
    (subst (λ (places : ℕ). IfSome c.make-found.result (λ at. at.place < places)) (stands_places turn.held.seat.opening _ turn.held.value c.self.invariant.stands) c.make-found.ensures.within)

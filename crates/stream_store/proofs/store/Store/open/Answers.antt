use Rattle.stream_store.specs.Steps.{blocks_in}
use Rattle.stream_store.specs.StoreState.{StoreState}
use Rattle.stream_store.proofs.Known.{begun_then, held_then, known_looked, rests_quiet_then}
use Rattle.stream_store.proofs.store.Store.open.Goals as goal

pub returns-in_err-store-inside-clause-quiet : goal.returns-in_err-store-inside-clause-quiet
returns-in_err-store-inside-clause-quiet g c = λ told. begun_then (g.V.Vol.disk c.args.vol.now) (g.V.Vol.disk c.found.new.vol) (g.V.Vol.disk c.look.new.vol) (c.found.ensures.quiet told) (c.look.ensures.quiet told)

pub returns-in_err-store-inside-clause-elsewhere : goal.returns-in_err-store-inside-clause-elsewhere
returns-in_err-store-inside-clause-elsewhere g c = λ told. rests_quiet_then (g.V.Vol.disk c.args.vol.now) (g.V.Vol.disk c.found.new.vol) (g.V.Vol.disk c.look.new.vol) (c.found.ensures.elsewhere told) (c.look.ensures.quiet told)

pub returns-in_err-store-inside-clause-any_moment : goal.returns-in_err-store-inside-clause-any_moment
returns-in_err-store-inside-clause-any_moment g c = λ told.
    held_then (g.V.Vol.disk c.args.vol.now) (g.V.Vol.disk c.found.new.vol) (g.V.Vol.disk c.look.new.vol) (g.met.V.Vol.clocked c.found.new.vol) (c.found.ensures.any_moment told) (c.look.ensures.quiet told)

pub returns-clause-quiet : goal.returns-clause-quiet
returns-clause-quiet g c = λ told. begun_then (g.V.Vol.disk c.args.vol.now) (g.V.Vol.disk c.found.new.vol) (g.V.Vol.disk c.look.new.vol) (c.found.ensures.quiet told) (c.look.ensures.quiet told)

pub returns-clause-elsewhere : goal.returns-clause-elsewhere
returns-clause-elsewhere g c = λ told. rests_quiet_then (g.V.Vol.disk c.args.vol.now) (g.V.Vol.disk c.found.new.vol) (g.V.Vol.disk c.look.new.vol) (c.found.ensures.elsewhere told) (c.look.ensures.quiet told)

pub returns-clause-any_moment : goal.returns-clause-any_moment
returns-clause-any_moment g c = λ told.
    held_then (g.V.Vol.disk c.args.vol.now) (g.V.Vol.disk c.found.new.vol) (g.V.Vol.disk c.look.new.vol) (g.met.V.Vol.clocked c.found.new.vol) (c.found.ensures.any_moment told) (c.look.ensures.quiet told)

pub returns-clause-base : goal.returns-clause-base
returns-clause-base g c = λ told.
    let s = c.store.inside in
    let viewed : StoreState = record { log = s.log; blocks = blocks_in s.late; unused = s.unused.items; rooms = s.rooms } in
    known_looked c.in_ok-store.store viewed c.in_ok-store-inside.field-0 c.in_ok-store.durable (g.V.Vol.disk c.found.new.vol) (g.V.Vol.disk c.look.new.vol) c.store.view_is (c.look.ensures.quiet told) (c.in_ok-store-inside.ensures.rooms told)
    (c.in_ok-store.ensures.base told)

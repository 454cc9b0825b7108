use Rattle.std.proofs.Common.{◌∙◌, sym}
use Rattle.stream_store.specs.Steps.{blocks_in}
use Rattle.stream_store.specs.StoreState.{StoreState}
use Rattle.stream_store.proofs.Known.{reserved_short, rooms_moved_in}
use Rattle.stream_store.proofs.store.Store.reserve.Goals as goal

pub reserve_logs-requires : goal.reserve_logs-requires
reserve_logs-requires g c = record { logs = c.self.invariant.1.1; durable = λ told. let f = c.requires.base told in (f.1.of_log.durable_zero, f.1.of_log.durable_one) }

pub returns-in_err-reserved-clause-any_moment : goal.returns-in_err-reserved-clause-any_moment
returns-in_err-reserved-clause-any_moment g c = λ told base is.
    c.reserve_logs.ensures.any_moment told c.args.self.now.log c.args.self.now.blocks base is

pub returns-clause-any_moment : goal.returns-clause-any_moment
returns-clause-any_moment g c = λ told base is.
    c.reserve_logs.ensures.any_moment told c.args.self.now.log c.args.self.now.blocks base is

pub returns-clause-short : goal.returns-clause-short
returns-clause-short g c = λ is.
    reserved_short c.reserve_logs.new.rooms c.args.count c.reserve_logs.ensures.logs (sym c.in_ok-reserved.ensures.reserved ∙ is)

pub returns-clause-room : goal.returns-clause-room
returns-clause-room g c = λ told.
    let old = g.V.Vol.disk c.args.vol.now in
    let new = g.V.Vol.disk c.reserve_logs.new.vol in
    let i = c.self.inside in
    let viewed : StoreState = record { log = i.log; blocks = blocks_in i.late; unused = i.unused.items; rooms = i.rooms } in
    record {
      keeps = rooms_moved_in c.args.self.now viewed c.reserve_logs.new.rooms old new c.self.view_is (c.in_ok-reserved.ensures.keeps told) (c.in_ok-reserved.ensures.known told);
      longer = c.in_ok-reserved.ensures.longer told;
    }

pub returns-clause-closed : goal.returns-clause-closed
returns-clause-closed g c = λ told. c.in_ok-reserved.ensures.closed told

pub returns-clause-elsewhere : goal.returns-clause-elsewhere
returns-clause-elsewhere g c = λ told. c.reserve_logs.ensures.elsewhere told

pub returns-in_err-reserved-clause-elsewhere : goal.returns-in_err-reserved-clause-elsewhere
returns-in_err-reserved-clause-elsewhere g c = λ told. c.reserve_logs.ensures.elsewhere told

use Rattle.std.proofs.Common.{arith, subst, sym}
use Rattle.stream_store.specs.Clearing.{IsOtherClosed}
use Rattle.stream_store.specs.Rooms.{AreReserved}
use Rattle.stream_store.specs.Steps.{blocks_in}
use Rattle.stream_store.specs.StoreState.{StoreState}
use Rattle.stream_store.proofs.Known.{ends_before, rooms_moved_in}
use Rattle.stream_store.proofs.store.Store.trim.Goals as goal

pub trim_logs-requires : goal.trim_logs-requires
trim_logs-requires g c =
    let old = g.V.Vol.disk c.args.vol.now in
    record {
      ends = λ told.
          let f = c.requires.base told in
          ends_before c.args.self.now.log c.args.self.now.blocks f.0 old c.trim_limit-limit.result f.1.of_log (c.requires.closed told) (g.met.V.Vol.honest told c.args.vol.now) (omega (arith, c.requires.within, c.trim_limit-limit.ensures.value)) (omega (arith, c.trim_limit-limit.ensures.value));
      durable = λ told. let f = c.requires.base told in (f.1.of_log.durable_zero, f.1.of_log.durable_one);
    }

pub returns-in_err-trim_logs-clause-any_moment : goal.returns-in_err-trim_logs-clause-any_moment
returns-in_err-trim_logs-clause-any_moment g c = λ told. c.trim_logs.ensures.any_moment told c.args.self.now.log c.args.self.now.blocks

pub returns-in_err-trim_logs-clause-reserved : goal.returns-in_err-trim_logs-clause-reserved
returns-in_err-trim_logs-clause-reserved g c =
    c.trim_logs.ensures.reserved c.args.bound (omega (arith, c.trim_limit-limit.ensures.value)) (subst (λ (t : StoreState). AreReserved t.rooms c.args.bound) (sym c.self.view_is) c.requires.reserved)

pub returns-clause-any_moment : goal.returns-clause-any_moment
returns-clause-any_moment g c = λ told. c.trim_logs.ensures.any_moment told c.args.self.now.log c.args.self.now.blocks

pub returns-clause-reserved : goal.returns-clause-reserved
returns-clause-reserved g c =
    c.trim_logs.ensures.reserved c.args.bound (omega (arith, c.trim_limit-limit.ensures.value)) (subst (λ (t : StoreState). AreReserved t.rooms c.args.bound) (sym c.self.view_is) c.requires.reserved)

pub returns-clause-closed : goal.returns-clause-closed
returns-clause-closed g c = λ told.
    subst (λ (t : StoreState). IsOtherClosed t.log (g.V.Vol.disk c.trim_logs.new.vol)) (sym c.self.view_is) (c.in_ok-trim_logs.ensures.closed told c.args.self.now.log (c.requires.closed told))

pub returns-clause-keeps : goal.returns-clause-keeps
returns-clause-keeps g c = λ told.
    let old = g.V.Vol.disk c.args.vol.now in
    let new = g.V.Vol.disk c.trim_logs.new.vol in
    let i = c.self.inside in
    let viewed : StoreState = record { log = i.log; blocks = blocks_in i.late; unused = i.unused.items; rooms = i.rooms } in
    rooms_moved_in c.args.self.now viewed c.trim_logs.new.rooms old new c.self.view_is (c.in_ok-trim_logs.ensures.keeps told) (c.in_ok-trim_logs.ensures.known told)

use Rattle.std.proofs.Common.{◌≡◌, ◌+◌, ◌∙◌, ℕ, length, sym, subst, arith}
use Rattle.histories.specs.Entries.{OfCatalog, OfRouter}
use Rattle.shared_desk.specs.Laying.{IsDealt}
use Rattle.shared_desk.proofs.Dealing.{all_long, all_same, dealt_all, dealt_long, dealt_ports, each_there, rooms_fewer}
use Rattle.shared_desk.proofs.Laid.{laid_so, ports_long}
use Rattle.shared_desk.proofs.NewPlaces.{as_they_were}
use Rattle.shared_desk.proofs.opening.lay.Goals as goal

pub returns-in_err-timers-clause-back : goal.returns-in_err-timers-clause-back
returns-in_err-timers-clause-back g c =
    let P = g.P.Place in
    λ none. as_they_were P.seen P.vol P.holds P.reads P.left P.clock P.faults P.room_causes P.base P.opens P.refuses P.keeps_vol c.args.places.now.items

pub returns-in_err-roused-clause-back : goal.returns-in_err-roused-clause-back
returns-in_err-roused-clause-back g c =
    let P = g.P.Place in
    λ none. as_they_were P.seen P.vol P.holds P.reads P.left P.clock P.faults P.room_causes P.base P.opens P.refuses P.keeps_vol c.args.places.now.items

pub returns-in_err-noted-clause-back : goal.returns-in_err-noted-clause-back
returns-in_err-noted-clause-back g c =
    let P = g.P.Place in
    λ none. as_they_were P.seen P.vol P.holds P.reads P.left P.clock P.faults P.room_causes P.base P.opens P.refuses P.keeps_vol c.args.places.now.items

pub returns-in_err-rows-clause-back : goal.returns-in_err-rows-clause-back
returns-in_err-rows-clause-back g c =
    let P = g.P.Place in
    λ none. as_they_were P.seen P.vol P.holds P.reads P.left P.clock P.faults P.room_causes P.base P.opens P.refuses P.keeps_vol c.args.places.now.items

pub returns-in_default-clause-back : goal.returns-in_default-clause-back
returns-in_default-clause-back g c =
    let P = g.P.Place in
    λ none. as_they_were P.seen P.vol P.holds P.reads P.left P.clock P.faults P.room_causes P.base P.opens P.refuses P.keeps_vol c.args.places.now.items

pub returns-in_default-with_capacity-clause-back : goal.returns-in_default-with_capacity-clause-back
returns-in_default-with_capacity-clause-back g c =
    let P = g.P.Place in
    λ none. as_they_were P.seen P.vol P.holds P.reads P.left P.clock P.faults P.room_causes P.base P.opens P.refuses P.keeps_vol c.args.places.now.items

pub returns-in_default-lock_both-clause-back : goal.returns-in_default-lock_both-clause-back
returns-in_default-lock_both-clause-back g c =
    let P = g.P.Place in
    λ none. as_they_were P.seen P.vol P.holds P.reads P.left P.clock P.faults P.room_causes P.base P.opens P.refuses P.keeps_vol c.args.places.now.items

pub lock_places-requires-clause-new : goal.lock_places-requires-clause-new
lock_places-requires-clause-new g c = dealt_ports (c.args.callers + c.len-count.result) c.in-Some.router.lock c.in-Some.router.seats.items c.in-Some.ensures.router

pub lock_places-requires-clause-enough : goal.lock_places-requires-clause-enough
lock_places-requires-clause-enough g c =
    let count : c.len-count.result ≡ length c.args.places.now.items = omega (arith, c.len-count.ensures, c.args.places.now.ok.0) in
    let long : length c.in-Some.router.seats.items ≡ c.args.callers + c.len-count.result = dealt_long OfRouter (c.args.callers + c.len-count.result) c.in-Some.router.lock c.in-Some.router.seats.items c.in-Some.ensures.router in
    omega (arith, count, long)

pub lock_places-requires-clause-rooms : goal.lock_places-requires-clause-rooms
lock_places-requires-clause-rooms g c =
    let count : c.len-count.result ≡ length c.args.places.now.items = omega (arith, c.len-count.ensures, c.args.places.now.ok.0) in
    rooms_fewer c.in_ok-rows.rows.items c.len-count.result (length c.args.places.now.items) (omega (arith, count)) c.in_ok-rows.ensures.room

pub deal_passes-requires-clause-room : goal.deal_passes-requires-clause-room
deal_passes-requires-clause-room g c =
    let rows : length c.lock_places.new.rows.items ≡ c.args.callers = all_long c.lock_places.new.rows.items c.lock_places.new.locks.items c.args.callers c.in-Ok-lock_places.ensures.dealt in
    omega (arith, rows, c.in-Ok.ensures.capacity)

pub deal_passes-requires-clause-routers : goal.deal_passes-requires-clause-routers
deal_passes-requires-clause-routers g c =
    let count : c.len-count.result ≡ length c.args.places.now.items = omega (arith, c.len-count.ensures, c.args.places.now.ok.0) in
    let router : IsDealt OfRouter (c.args.callers + length c.args.places.now.items) c.in-Some.router.lock c.in-Some.router.seats.items = subst (λ (n : ℕ). IsDealt OfRouter (c.args.callers + n) c.in-Some.router.lock c.in-Some.router.seats.items) count c.in-Some.ensures.router in
    let rows : length c.lock_places.new.rows.items ≡ c.args.callers = all_long c.lock_places.new.rows.items c.lock_places.new.locks.items c.args.callers c.in-Ok-lock_places.ensures.dealt in
    ports_long g.P.Place.seen c.args.callers c.args.places.now.items c.in-Some.router.lock c.in-Some.router.seats.items c.lock_places.new.ports.items c.lock_places.new.locks.items router c.in-Ok-lock_places.ensures.locked ∙ sym rows

pub deal_passes-requires-clause-catalogs : goal.deal_passes-requires-clause-catalogs
deal_passes-requires-clause-catalogs g c =
    let rows : length c.lock_places.new.rows.items ≡ c.args.callers = all_long c.lock_places.new.rows.items c.lock_places.new.locks.items c.args.callers c.in-Ok-lock_places.ensures.dealt in
    dealt_long (OfCatalog c.args.catalog) c.args.callers c.in-Some.catalog.lock c.in-Some.catalog.seats.items c.in-Some.ensures.catalog ∙ sym rows

pub deal_passes-requires-clause-there : goal.deal_passes-requires-clause-there
deal_passes-requires-clause-there g c = each_there c.lock_places.new.rows.items c.lock_places.new.locks.items c.args.callers c.in-Ok-lock_places.ensures.dealt

pub undo-requires : goal.undo-requires
undo-requires g c = record {
  all = all_same c.in-Some.router.lock c.in-Some.router.seats.items c.lock_places.new.ports.items c.in-Err.ensures.ports
      (dealt_all OfRouter (c.args.callers + c.len-count.result) c.in-Some.router.lock c.in-Some.router.seats.items (omega (arith, c.requires.callers)) c.in-Some.ensures.router);
}

pub undo-requires-in-Err : goal.undo-requires-in-Err
undo-requires-in-Err g c = record { all = dealt_all (OfCatalog c.args.catalog) c.args.callers c.in-Some.catalog.lock c.in-Some.catalog.seats.items c.requires.callers.0 c.in-Some.ensures.catalog }

pub returns-in-Ok-lock_places-clause-laid : goal.returns-in-Ok-lock_places-clause-laid
returns-in-Ok-lock_places-clause-laid g c =
    let count : c.len-count.result ≡ length c.args.places.now.items = omega (arith, c.len-count.ensures, c.args.places.now.ok.0) in
    let router : IsDealt OfRouter (c.args.callers + length c.args.places.now.items) c.in-Some.router.lock c.in-Some.router.seats.items = subst (λ (n : ℕ). IsDealt OfRouter (c.args.callers + n) c.in-Some.router.lock c.in-Some.router.seats.items) count c.in-Some.ensures.router in
    laid_so g.P.Place.seen c.args.callers c.args.catalog c.args.places.now.items c.in-Some.router.lock c.in-Some.catalog.lock c.in-Some.router.seats.items c.lock_places.new.ports.items c.in-Some.catalog.seats.items
    c.lock_places.new.locks.items c.lock_places.new.rows.items c.deal_passes.new.passes.items c.requires.callers.0 router c.in-Some.ensures.catalog c.in-Ok-lock_places.ensures.locked c.in-Ok-lock_places.ensures.dealt
    c.deal_passes.ensures.dealt

use Rattle.std.proofs.Common.{◌≡◌, ◌≤◌, arith, ap, length, sym, subst, vec_capacity}
use Rattle.turn_lock.specs.Seats.{SeatView}
use Rattle.shared_desk.specs.Joining.{UnlocksEach}
use Rattle.shared_desk.specs.Seats.{seat_in, seats_in}
use Rattle.shared_desk.proofs.Apart.{apart_so, catalog_all, router_all, router_whole, rows_long}
use Rattle.shared_desk.proofs.hub.Hub.take_apart.Goals as goal

pub close-requires-clause-all : goal.close-requires-clause-all
close-requires-clause-all g c =
    let P = g.P.Place in
    router_whole P.seen P.vol P.holds P.left P.clock P.base P.keeps_vol c.self.inside.router.seats c.self.inside.places.items (seats_in c.all.inside.places.items) c.end_locks-row.result.0.items
    c.in-Some.of_router c.end_locks-row.result.1 c.end_locks-row.ensures.ends
    (router_all c.args.self _ c.args.all _ c.self.view_is c.all.view_is c.in-Some.of_router c.requires.all (ap seat_in c.in-Some.is))

pub close-requires-2-clause-all : goal.close-requires-2-clause-all
close-requires-2-clause-all g c =
    catalog_all c.args.self _ c.args.all _ c.self.view_is c.all.view_is c.in-Some-of_catalog.of_catalog c.requires.all (ap seat_in c.in-Some-of_catalog.is)

pub close_places-failed-requires-clause-room : goal.close_places-failed-requires-clause-room
close_places-failed-requires-clause-room g c =
    let P = g.P.Place in let ends = c.end_locks-row.ensures.ends in
    let long : length c.end_locks-row.result.0.items ≡ length c.self.inside.places.items =
    rows_long P.seen P.vol P.holds P.left P.clock P.base P.keeps_vol c.self.inside.places.items (seats_in c.all.inside.places.items) c.end_locks-row.result.0.items ends.ports ends.row_is
    in
    let fits : length c.self.inside.places.items ≤ vec_capacity c.self.inside.vols = c.self.invariant.vols_fit in omega (arith, long, fits)

pub close_places-failed-requires-clause-few : goal.close_places-failed-requires-clause-few
close_places-failed-requires-clause-few g c =
    let P = g.P.Place in let ends = c.end_locks-row.ensures.ends in
    let long : length c.end_locks-row.result.0.items ≡ length c.self.inside.places.items =
    rows_long P.seen P.vol P.holds P.left P.clock P.base P.keeps_vol c.self.inside.places.items (seats_in c.all.inside.places.items) c.end_locks-row.result.0.items ends.ports ends.row_is
    in
    let few : length c.self.inside.places.items ≤ 32 = c.self.invariant.is_hub.few in omega (arith, long, few)

pub returns : goal.returns
returns g c =
    let P = g.P.Place in
    record {
      apart = apart_so c.args.self _ c.args.all _ c.self.view_is c.all.view_is P.seen P.vol P.holds P.reads P.left P.clock P.base P.keeps_vol _
          (record {
            row = c.end_locks-row.result.0.items;
            router = c.end_locks-row.result.1;
            unlocks = subst
                (λ (seat : SeatView). UnlocksEach P.seen P.vol P.holds P.left P.clock P.base P.keeps_vol c.self.inside.places.items (seats_in c.all.inside.places.items) c.end_locks-row.result.0.items seat
                c.end_locks-row.result.1)
                (sym (ap seat_in c.in-Some.is)) c.end_locks-row.ensures.ends;
            routers = record { opening = c.close.ensures.opening; whole = c.close.ensures.whole };
            value = c.close.result;
            stands = c.close.ensures.stands;
            closes = c.close_places-failed.ensures.closed;
          });
    }

use Rattle.std.proofs.Common.{arith, ap, length, ◌∙◌}
use Rattle.shared_desk.specs.Seats.{seats_in}
use Rattle.shared_desk.proofs.Ending.{all_ended, emptied, last_may, may_end, none_away, none_ended, one_ended, parted, port_of, some_left, unlocks_one}
use Rattle.shared_desk.proofs.closing.end_locks.Goals as goal

pub loop-locks-init : goal.loop-locks-init
loop-locks-init g c =
    let P = g.P.Place in
    record {
      ended = none_ended P.seen P.vol P.holds P.left P.clock P.base P.keeps_vol c.args.locks.items (seats_in c.args.seats.items) c.args.row.items c.args.seat c.requires.room.0;
      there = c.requires.seated.0;
      may = may_end c.args.router.now.lock c.args.locks.items (seats_in c.args.seats.items) c.requires.seated.1 c.requires.all c.requires.ports;
      own = c.requires.own;
      room = omega (arith, c.requires.room.1, ap length c.requires.room.0, c.args.row.ok.0, c.args.locks.ok.0);
    }

pub take_last-requires : goal.take_last-requires
take_last-requires g c =
    let i = c.loop-locks.invariant in
    let some = some_left c.args.router.now.lock c.loop-locks.locks.items c.loop-locks.seats.items i.there i.may (omega (arith, c.take_last-lock.ensures.len, c.loop-locks.locks.ok.0)) in
    omega (arith, some, c.loop-locks.seats.ok.0)

pub unreachable-requires : goal.unreachable-requires
unreachable-requires g c = none_away c.loop-locks.seats.items c.take_last.new.self.items c.take_last.result c.in_default.is c.take_last.ensures.items c.loop-locks.invariant.there

pub close-requires-clause-own : goal.close-requires-clause-own
close-requires-clause-own g c =
    let i = c.loop-locks.invariant in
    (last_may c.args.router.now.lock c.loop-locks.locks.items c.take_last-lock.new.self.items c.take_last-lock.result c.loop-locks.seats.items c.take_last.new.self.items c.in-Some.last
    c.take_last-lock.ensures.items c.in-Some.ensures.items i.there i.may).last.is.lock

pub close-requires-clause-all : goal.close-requires-clause-all
close-requires-clause-all g c =
    let i = c.loop-locks.invariant in
    (last_may c.args.router.now.lock c.loop-locks.locks.items c.take_last-lock.new.self.items c.take_last-lock.result c.loop-locks.seats.items c.take_last.new.self.items c.in-Some.last
    c.take_last-lock.ensures.items c.in-Some.ensures.items i.there i.may).last.all

pub join-all-requires : goal.join-all-requires
join-all-requires g c =
    let P = g.P.Place in let i = c.loop-locks.invariant in
    let m = last_may c.args.router.now.lock c.loop-locks.locks.items c.take_last-lock.new.self.items c.take_last-lock.result c.loop-locks.seats.items c.take_last.new.self.items c.in-Some.last
    c.take_last-lock.ensures.items c.in-Some.ensures.items i.there i.may in
    record {
      own = (
        port_of P.seen P.vol P.holds P.left P.clock P.base P.keeps_vol c.args.router.now.lock c.take_last-lock.result c.in-Some.last c.into_parts-place.result.0 c.into_parts-place.result.1 m.last c.close.ensures.whole
            (parted P.seen P.vol P.holds P.left P.clock P.base P.keeps_vol c.in-Some.last c.close.result.place c.into_parts-place.result.0 c.close.result.port c.into_parts-place.result.1
            c.into_parts-place.ensures.place c.into_parts-place.ensures.port c.close.ensures.stands),
        i.own,
      );
    }

pub loop-locks-preserved : goal.loop-locks-preserved
loop-locks-preserved g c =
    let P = g.P.Place in let i = c.loop-locks.invariant in
    let m = last_may c.args.router.now.lock c.loop-locks.locks.items c.take_last-lock.new.self.items c.take_last-lock.result c.loop-locks.seats.items c.take_last.new.self.items c.in-Some.last
    c.take_last-lock.ensures.items c.in-Some.ensures.items i.there i.may in
    let stands = parted P.seen P.vol P.holds P.left P.clock P.base P.keeps_vol c.in-Some.last c.close.result.place c.into_parts-place.result.0 c.close.result.port c.into_parts-place.result.1
    c.into_parts-place.ensures.place c.into_parts-place.ensures.port c.close.ensures.stands in
    record {
      ended = one_ended P.seen P.vol P.holds P.left P.clock P.base P.keeps_vol c.args.locks.items c.loop-locks.locks.items c.take_last-lock.new.self.items (seats_in c.args.seats.items)
          (seats_in c.loop-locks.seats.items) (seats_in c.take_last.new.self.items) c.loop-locks.row.items c.push_reserved.new.self.items c.args.seat c.loop-locks.all c.join-all.result
          c.take_last-lock.result c.in-Some.last c.into_parts-place.result.0 c.into_parts-place.result.1 i.ended c.take_last-lock.ensures.items m.seats_are
          (unlocks_one P.seen P.vol P.holds P.left P.clock P.base P.keeps_vol c.args.router.now.lock c.take_last-lock.result c.in-Some.last c.into_parts-place.result.0 c.into_parts-place.result.1 m.last
          c.close.ensures.whole stands)
          c.push_reserved.ensures.items c.join-all.ensures.joined;
      there = m.there;
      may = m.others;
      own = c.join-all.ensures.joined.lock
          ∙ port_of P.seen P.vol P.holds P.left P.clock P.base P.keeps_vol c.args.router.now.lock c.take_last-lock.result c.in-Some.last c.into_parts-place.result.0 c.into_parts-place.result.1 m.last
          c.close.ensures.whole stands;
      room = omega (arith, i.room, c.take_last-lock.ensures.len, c.push_reserved.ensures.len, c.push_reserved.ensures.capacity);
    }

pub returns-clause-ends : goal.returns-clause-ends
returns-clause-ends g c =
    let P = g.P.Place in let i = c.loop-locks.invariant in
    all_ended P.seen P.vol P.holds P.left P.clock P.base P.keeps_vol c.args.locks.items c.loop-locks.locks.items (seats_in c.args.seats.items) c.loop-locks.seats.items c.loop-locks.row.items
    c.reverse.new.self.items c.args.seat c.loop-locks.all c.args.router.now.lock i.ended
    (emptied c.loop-locks.locks.items _ c.is_empty.result c.loop-locks.locks.ok.0 c.is_empty.ensures c.loop-locks-test.false) i.may c.reverse.ensures.items

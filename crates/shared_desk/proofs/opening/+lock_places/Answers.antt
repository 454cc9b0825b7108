use Rattle.std.proofs.Common.{◌≡◌, ◌+◌, ◌∙◌, [], ◌∷◌, length, sym, ap, arith}
use Rattle.std.proofs.lemmas.List.{length-append}
use Rattle.std.proofs.lemmas.Slice.Zip.{AllZip-long}
use Rattle.hub_place.specs.Kinds.{IsNewPort}
use Rattle.shared_desk.specs.Laying.{IsSameSeat}
use Rattle.shared_desk.specs.Opening.{ComesBack, WasOpened}
use Rattle.shared_desk.proofs.Dealing.{all_but_last, all_long, at_last, dealt_all, dealt_long, dealt_unmade, put_back, put_dealt, rooms_fewer, rooms_left, same_seats_so, zip_last}
use Rattle.shared_desk.proofs.Ending.{emptied}
use Rattle.shared_desk.proofs.Laid.{locks_begun, locks_on}
use Rattle.shared_desk.proofs.NewPlaces.{as_they_are, back_again, same_again}
use Rattle.shared_desk.proofs.opening.+lock_places.Goals as goal

pub returns-then-is_empty-clause-locked : goal.returns-then-is_empty-clause-locked
returns-then-is_empty-clause-locked g t c =
    locks_begun g.P.Place.seen c.args.callers c.args.places.now.items c.args.ports.now.items c.args.locks.now.items (emptied c.args.places.now.items _ c.is_empty.result c.args.places.now.ok.0 c.is_empty.ensures c.if-is_empty.true) c.requires.none

pub lock_place-requires-clause-opened : goal.lock_place-requires-clause-opened
lock_place-requires-clause-opened g t c =
    let P = g.P.Place in
    at_last (WasOpened P.seen P.vol P.holds P.reads P.left P.clock P.faults P.room_causes P.base P.opens P.refuses P.keeps_vol) c.args.places.now.items c.take_last.new.self.items c.take_last.result c.take_last.ensures.items c.requires.opened

pub lock_place-requires-clause-new : goal.lock_place-requires-clause-new
lock_place-requires-clause-new g t c = at_last IsNewPort c.args.ports.now.items c.take_last-2.new.self.items c.take_last-2.result c.take_last-2.ensures.items c.requires.new

pub lock_places-requires : goal.lock_places-requires
lock_places-requires g t c =
    let P = g.P.Place in
    let fewer : length c.args.places.now.items ≡ length c.take_last.new.self.items + 1 = ap length c.take_last.ensures.items ∙ length-append c.take_last.new.self.items (c.take_last.result ∷ []) in
    let ports : length c.args.ports.now.items ≡ length c.take_last-2.new.self.items + 1 = ap length c.take_last-2.ensures.items ∙ length-append c.take_last-2.new.self.items (c.take_last-2.result ∷ []) in
    λ κs lives. (
      omega (arith, c.take_last.ensures.len),
      (
        lives.0,
        (
          lives.1,
          (
            all_but_last (WasOpened P.seen P.vol P.holds P.reads P.left P.clock P.faults P.room_causes P.base P.opens P.refuses P.keeps_vol) c.args.places.now.items c.take_last.new.self.items c.take_last.result c.take_last.ensures.items c.requires.opened,
            (
              all_but_last IsNewPort c.args.ports.now.items c.take_last-2.new.self.items c.take_last-2.result c.take_last-2.ensures.items c.requires.new,
              (
                omega (arith, fewer, ports, c.requires.enough),
                (
                  c.requires.callers,
                  (
                    c.requires.none,
                    (
                      omega (arith, fewer, c.requires.room),
                      (
                        c.requires.rows,
                        rooms_fewer c.args.rows.now.items (length c.args.places.now.items) (length c.take_last.new.self.items) (omega (arith, fewer)) c.requires.rooms,
                      ),
                    ),
                  ),
                ),
              ),
            ),
          ),
        ),
      ),
    )

pub deal-requires-clause-as_many : goal.deal-requires-clause-as_many
deal-requires-clause-as_many g t c =
    dealt_long _ c.args.callers c.in-Ok.dealt.lock c.in-Ok.dealt.seats.items c.in-Ok.ensures.dealt ∙ sym (all_long c.lock_places.new.rows.items c.lock_places.new.locks.items c.args.callers c.in-Ok-lock_places.ensures.dealt)

pub deal-requires-clause-room : goal.deal-requires-clause-room
deal-requires-clause-room g t c =
    let fewer : length c.args.places.now.items ≡ length c.take_last.new.self.items + 1 = ap length c.take_last.ensures.items ∙ length-append c.take_last.new.self.items (c.take_last.result ∷ []) in
    rooms_left c.args.rows.now.items c.lock_places.new.rows.items c.lock_places.new.locks.items (length c.args.places.now.items) c.args.callers
    (omega (arith, c.in-Ok-lock_places.ensures.locked.count, fewer))
    c.requires.rooms c.lock_places.ensures.rooms c.in-Ok-lock_places.ensures.dealt

pub undo-requires : goal.undo-requires
undo-requires g t c = record { all = dealt_all _ c.args.callers c.in-Ok.dealt.lock c.in-Ok.dealt.seats.items c.requires.callers.0 c.in-Ok.ensures.dealt }

pub push_reserved-requires-in-Err-lock_places : goal.push_reserved-requires-in-Err-lock_places
push_reserved-requires-in-Err-lock_places g t c =
    let P = g.P.Place in
    let long : length c.lock_places.new.places.items ≡ length c.take_last.new.self.items = AllZip-long (ComesBack P.seen P.vol P.holds P.reads P.left P.clock P.faults P.room_causes P.base P.opens P.refuses P.keeps_vol) c.take_last.new.self.items c.lock_places.new.places.items c.in-Err-lock_places.ensures.back in
    omega (arith, long, c.lock_places.new.places.ok.0, c.lock_places.ensures.room.0, c.take_last.ensures.len, c.take_last.ensures.capacity, c.take_last.new.self.ok.0, c.args.places.now.ok.1)

pub push_reserved-requires-in-Err-lock_places-2 : goal.push_reserved-requires-in-Err-lock_places-2
push_reserved-requires-in-Err-lock_places-2 g t c =
    let long : length c.lock_places.new.ports.items ≡ length c.take_last-2.new.self.items = AllZip-long IsSameSeat c.take_last-2.new.self.items c.lock_places.new.ports.items c.in-Err-lock_places.ensures.ports in
    omega (arith, long, c.lock_places.new.ports.ok.0, c.lock_places.ensures.room.1, c.take_last-2.ensures.len, c.take_last-2.ensures.capacity, c.take_last-2.new.self.ok.0, c.args.ports.now.ok.1)

pub returns-in-Ok-lock_places-clause-locked : goal.returns-in-Ok-lock_places-clause-locked
returns-in-Ok-lock_places-clause-locked g t c =
    locks_on g.P.Place.seen c.args.callers c.args.places.now.items c.take_last.new.self.items c.take_last.result c.args.ports.now.items c.take_last-2.new.self.items c.lock_places.new.ports.items c.take_last-2.result
    c.push_reserved.new.self.items c.lock_places.new.locks.items c.in-Ok.dealt.lock c.in-Ok.dealt.seats.items c.take_last.ensures.items c.take_last-2.ensures.items c.push_reserved.ensures.items c.requires.new c.in-Ok.ensures.dealt
    c.in-Ok-lock_places.ensures.locked

pub returns-in-Ok-lock_places-clause-dealt : goal.returns-in-Ok-lock_places-clause-dealt
returns-in-Ok-lock_places-clause-dealt g t c =
    put_dealt _ c.args.callers c.in-Ok.dealt.lock c.in-Ok.dealt.seats.items c.push_reserved.new.self.items c.lock_places.new.locks.items _ _ c.in-Ok.ensures.dealt c.push_reserved.ensures.items c.in-Ok-lock_places.ensures.dealt c.deal.ensures.dealt

pub returns-in-Err-lock_places-clause-back : goal.returns-in-Err-lock_places-clause-back
returns-in-Err-lock_places-clause-back g t c =
    let P = g.P.Place in
    zip_last (ComesBack P.seen P.vol P.holds P.reads P.left P.clock P.faults P.room_causes P.base P.opens P.refuses P.keeps_vol) c.args.places.now.items c.take_last.new.self.items c.push_reserved-in-Err-lock_places.new.self.items
    c.lock_places.new.places.items c.take_last.result c.into_parts-place.result.0 c.take_last.ensures.items c.push_reserved-in-Err-lock_places.ensures.items c.in-Err-lock_places.ensures.back
    (rw c.into_parts-place.ensures.place
    (back_again P.seen P.vol P.holds P.reads P.left P.clock P.faults P.room_causes P.base P.opens P.refuses P.keeps_vol c.take_last.result c.undo.result.place c.take_last-2.result c.undo.result.port
    (at_last IsNewPort c.args.ports.now.items c.take_last-2.new.self.items c.take_last-2.result c.take_last-2.ensures.items c.requires.new) c.in-Ok.dealt.lock.opening c.in-Ok.ensures.dealt.opens
    (c.undo.ensures.unmade (dealt_unmade _ c.args.callers c.in-Ok.dealt.lock c.in-Ok.dealt.seats.items c.in-Ok.ensures.dealt))))

pub returns-in-Err-lock_places-clause-ports : goal.returns-in-Err-lock_places-clause-ports
returns-in-Err-lock_places-clause-ports g t c =
    let P = g.P.Place in
    zip_last IsSameSeat c.args.ports.now.items c.take_last-2.new.self.items c.push_reserved-in-Err-lock_places-2.new.self.items c.lock_places.new.ports.items c.take_last-2.result c.into_parts-place.result.1
    c.take_last-2.ensures.items c.push_reserved-in-Err-lock_places-2.ensures.items c.in-Err-lock_places.ensures.ports
    (rw c.into_parts-place.ensures.port
    (same_again P.seen P.vol P.holds P.reads P.left P.clock P.faults P.room_causes P.base P.opens P.refuses P.keeps_vol c.take_last.result c.undo.result.place c.take_last-2.result c.undo.result.port
    (at_last IsNewPort c.args.ports.now.items c.take_last-2.new.self.items c.take_last-2.result c.take_last-2.ensures.items c.requires.new) c.in-Ok.dealt.lock.opening c.in-Ok.ensures.dealt.opens
    (c.undo.ensures.unmade (dealt_unmade _ c.args.callers c.in-Ok.dealt.lock c.in-Ok.dealt.seats.items c.in-Ok.ensures.dealt))))

pub returns-in-Err-clause-back : goal.returns-in-Err-clause-back
returns-in-Err-clause-back g t c =
    let P = g.P.Place in
    as_they_are P.seen P.vol P.holds P.reads P.left P.clock P.faults P.room_causes P.base P.opens P.refuses P.keeps_vol c.args.places.now.items c.push_reserved-in-Err.new.self.items
    (put_back c.args.places.now.items c.take_last.new.self.items c.push_reserved-in-Err.new.self.items c.take_last.result c.in-Err.place c.take_last.ensures.items c.push_reserved-in-Err.ensures.items c.in-Err.ensures.err.0)

pub returns-in-Err-clause-ports : goal.returns-in-Err-clause-ports
returns-in-Err-clause-ports g t c =
    same_seats_so c.args.ports.now.items c.push_reserved-in-Err-2.new.self.items
    (put_back c.args.ports.now.items c.take_last-2.new.self.items c.push_reserved-in-Err-2.new.self.items c.take_last-2.result c.in-Err.port c.take_last-2.ensures.items c.push_reserved-in-Err-2.ensures.items c.in-Err.ensures.err.1)

use Rattle.std.proofs.Common.{◌∙◌, ap, arith, refl, subst, sym}
use Rattle.std.specs.Prelude.{nat_le}
use Rattle.std.proofs.lemmas.Bool.{le-leb}
use Rattle.stream_store.specs.Rooms.{AreLogsShort, AreMore, AreRooms, room_of}
use Rattle.stream_store.specs.declared.rooms.Rooms.{Rooms}
use Rattle.stream_store.proofs.Known.{closed_kept, known_set, le_false, log_longer, made_of, more_same, more_set, reach_set, room_known, room_set, room_short, rooms_longer, short_set, still_leaves}
use Rattle.stream_store.proofs.Lengthening.{log_base, log_leaves}
use Rattle.stream_store.proofs.reserving.lengthen.Goals as goal

-- it is so long already

pub returns-then-end-known-clause-value : goal.returns-then-end-known-clause-value
returns-then-end-known-clause-value g c = sym (ap (nat_le c.args.end) (sym c.of-known.ensures.value) ∙ le-leb c.args.end c.of-known.result c.if-end-known.true)

pub returns-then-end-known-clause-more : goal.returns-then-end-known-clause-more
returns-then-end-known-clause-more g c = more_same c.args.rooms.now

pub returns-then-end-known-clause-keeps : goal.returns-then-end-known-clause-keeps
returns-then-end-known-clause-keeps g c = λ told log b base is. is

pub returns-then-end-known-clause-closed : goal.returns-then-end-known-clause-closed
returns-then-end-known-clause-closed g c = λ told log closed. closed

pub returns-then-end-known-clause-longer : goal.returns-then-end-known-clause-longer
returns-then-end-known-clause-longer g c = λ told file. omega arith

pub returns-then-end-known-clause-any_moment : goal.returns-then-end-known-clause-any_moment
returns-then-end-known-clause-any_moment g c = λ told. still_leaves (g.V.Vol.disk c.args.vol.now) (g.met.V.Vol.clocked c.args.vol.now)

pub returns-then-end-known-clause-elsewhere : goal.returns-then-end-known-clause-elsewhere
returns-then-end-known-clause-elsewhere g c = λ told other apart. record { seen = refl; leaves = λ bytes left. left }

-- room is asked for

pub make_room-requires : goal.make_room-requires
make_room-requires g c = record { head = omega (arith, c.requires.head, c.requires.short, c.whole_chunks.ensures.reaches, c.min-chunks.ensures); durable = c.requires.durable }

pub returns-in_err-made-clause-more : goal.returns-in_err-made-clause-more
returns-in_err-made-clause-more g c = more_same c.args.rooms.now

pub returns-in_err-made-clause-any_moment : goal.returns-in_err-made-clause-any_moment
returns-in_err-made-clause-any_moment g c = λ told log b base is.
    log_leaves c.args.file (c.requires.low told) (g.V.Vol.disk c.args.vol.now) (g.V.Vol.disk c.make_room.new.vol) log b base is (c.make_room.ensures.any_moment told)

pub returns-in_err-made-clause-elsewhere : goal.returns-in_err-made-clause-elsewhere
returns-in_err-made-clause-elsewhere g c = λ told. (c.make_room.ensures.any_moment told).elsewhere

pub returns-clause-value : goal.returns-clause-value
returns-clause-value g c = ap (nat_le c.args.end) (sym (ap (λ (r : Rooms). room_of r c.args.file) c.set.ensures.value ∙ room_set c.args.rooms.now c.args.file c.max-len.result))

pub returns-clause-more : goal.returns-clause-more
returns-clause-more g c = subst (λ (r : Rooms). AreMore c.args.rooms.now r) (sym c.set.ensures.value) (more_set c.args.rooms.now c.args.file c.max-len.result (omega (arith, c.of-known.ensures.value, c.max-len.ensures)))

pub returns-clause-any_moment : goal.returns-clause-any_moment
returns-clause-any_moment g c = λ told log b base is.
    log_leaves c.args.file (c.requires.low told) (g.V.Vol.disk c.args.vol.now) (g.V.Vol.disk c.make_room.new.vol) log b base is (c.make_room.ensures.any_moment told)

pub returns-clause-elsewhere : goal.returns-clause-elsewhere
returns-clause-elsewhere g c = λ told. (c.make_room.ensures.any_moment told).elsewhere

pub returns-clause-keeps : goal.returns-clause-keeps
returns-clause-keeps g c = λ told log b base is.
    log_base c.args.file (c.requires.low told) (g.V.Vol.disk c.args.vol.now) (g.V.Vol.disk c.make_room.new.vol) log b base is (c.make_room.ensures.any_moment told).elsewhere (c.in_ok-made.ensures.keeps told) (c.in_ok-made.ensures.durable told)

pub returns-clause-closed : goal.returns-clause-closed
returns-clause-closed g c = λ told.
    closed_kept c.args.file (g.V.Vol.disk c.args.vol.now) (g.V.Vol.disk c.make_room.new.vol) (g.met.V.Vol.honest told c.args.vol.now) (c.make_room.ensures.any_moment told).elsewhere (c.in_ok-made.ensures.keeps told) (c.in_ok-made.ensures.durable told)

pub returns-clause-longer : goal.returns-clause-longer
returns-clause-longer g c = λ told. log_longer c.args.file (g.V.Vol.disk c.args.vol.now) (g.V.Vol.disk c.make_room.new.vol) (c.make_room.ensures.any_moment told).elsewhere (c.in_ok-made.ensures.longer told)

pub returns-clause-reach : goal.returns-clause-reach
returns-clause-reach g c = ap (λ (r : Rooms). r.reach) c.set.ensures.value ∙ reach_set c.args.rooms.now c.args.file c.max-len.result

pub returns-clause-logs : goal.returns-clause-logs
returns-clause-logs g c =
    let known = room_short c.args.rooms.now c.args.file c.of-known.result c.requires.logs (omega (arith, c.of-known.ensures.value)) in
    subst AreLogsShort (sym c.set.ensures.value) (short_set c.args.rooms.now c.args.file c.max-len.result (omega (arith, known, c.max-len.ensures, c.min.ensures)) c.requires.logs)

pub returns-clause-known : goal.returns-clause-known
returns-clause-known g c = λ told are.
    let old = g.V.Vol.disk c.args.vol.now in
    let new = g.V.Vol.disk c.make_room.new.vol in
    let low = c.requires.low told in
    let room = c.in_ok-made.ensures.room told in
    let longer = c.in_ok-made.ensures.longer told in
    let known = room_known c.args.rooms.now old c.args.file c.of-known.result low are (omega (arith, c.of-known.ensures.value)) in
    subst (λ (r : Rooms). AreRooms r new) (sym c.set.ensures.value)
    (known_set c.args.rooms.now c.args.file c.max-len.result new low (omega (arith, room, longer, known, c.max-len.ensures, c.min.ensures)) (rooms_longer c.args.rooms.now old new (log_longer c.args.file old new (c.make_room.ensures.any_moment told).elsewhere longer) are))

pub returns-clause-refused : goal.returns-clause-refused
returns-clause-refused g c = record {
  later = c.make_room.ensures.refused.later;
  failed = λ is. let less = le_false c.args.end c.max-len.result (ap made_of is) in c.in_ok-made.ensures.refused.failed (omega (arith, less, c.requires.short, c.whole_chunks.ensures.reaches, c.min-chunks.ensures, c.max-len.ensures, c.min.ensures));
}

use Rattle.std.proofs.Common.{◌≡◌, ◌<◌, ◌∙◌, true, ap, arith, refl, subst, sym}
use Rattle.stream_store.specs.Rooms.{AreLogsShort, AreRooms, is_reserved, room_of}
use Rattle.stream_store.specs.declared.rooms.Rooms.{Rooms}
use Rattle.stream_store.proofs.Known.{closed_kept, reach_set, reserved_set, room_short, short_set, still_leaves, trimmed_known}
use Rattle.stream_store.proofs.Lengthening.{log_base, log_leaves}
use Rattle.stream_store.proofs.reserving.trim_log.Goals as goal

pub returns-then-of-limit-clause-keeps : goal.returns-then-of-limit-clause-keeps
returns-then-of-limit-clause-keeps g c = λ told log b base is.
    is

pub returns-then-of-limit-clause-closed : goal.returns-then-of-limit-clause-closed
returns-then-of-limit-clause-closed g c = λ told log closed.
    closed

pub returns-then-of-limit-clause-any_moment : goal.returns-then-of-limit-clause-any_moment
returns-then-of-limit-clause-any_moment g c = λ told.
    still_leaves (g.V.Vol.disk c.args.vol.now) (g.met.V.Vol.clocked c.args.vol.now)

pub returns-then-of-limit-clause-elsewhere : goal.returns-then-of-limit-clause-elsewhere
returns-then-of-limit-clause-elsewhere g c = λ told other apart.
    record { seen = refl; leaves = λ bytes left. left }

pub returns-then-of-limit-clause-reserved : goal.returns-then-of-limit-clause-reserved
returns-then-of-limit-clause-reserved g c = λ count within is.
    is

pub returns-then-of-limit-clause-known : goal.returns-then-of-limit-clause-known
returns-then-of-limit-clause-known g c = λ told are.
    are

pub returns-then-of-limit-clause-logs : goal.returns-then-of-limit-clause-logs
returns-then-of-limit-clause-logs g c = λ short.
    short

pub trim-requires : goal.trim-requires
trim-requires g c =
    record { behind = c.requires.ends; durable = c.requires.durable }

pub returns-in_err-trim-clause-reserved : goal.returns-in_err-trim-clause-reserved
returns-in_err-trim-clause-reserved g c = λ count within is.
    is

pub returns-in_err-trim-clause-any_moment : goal.returns-in_err-trim-clause-any_moment
returns-in_err-trim-clause-any_moment g c = λ told log b base is.
    log_leaves c.args.file (c.requires.low told) (g.V.Vol.disk c.args.vol.now) (g.V.Vol.disk c.trim.new.vol) log b base is (c.trim.ensures.any_moment told)

pub returns-in_err-trim-clause-elsewhere : goal.returns-in_err-trim-clause-elsewhere
returns-in_err-trim-clause-elsewhere g c = λ told.
    (c.trim.ensures.any_moment told).elsewhere

pub returns-clause-reach : goal.returns-clause-reach
returns-clause-reach g c =
    ap (λ (r : Rooms). r.reach) c.set.ensures.value ∙ reach_set c.args.rooms.now c.args.file c.args.limit

pub returns-clause-logs : goal.returns-clause-logs
returns-clause-logs g c = λ short.
    let more : c.args.limit < c.of.result = omega (arith, c.if-of-limit.false) in
    let low = room_short c.args.rooms.now c.args.file (room_of c.args.rooms.now c.args.file) short (omega arith) in
    subst AreLogsShort (sym c.set.ensures.value) (short_set c.args.rooms.now c.args.file c.args.limit (omega (arith, more, low, c.of.ensures.value)) short)

pub returns-clause-reserved : goal.returns-clause-reserved
returns-clause-reserved g c = λ count within is.
    subst (λ (r : Rooms). is_reserved r count ≡ true) (sym c.set.ensures.value) (reserved_set c.args.rooms.now c.args.file c.args.limit count within is)

pub returns-clause-known : goal.returns-clause-known
returns-clause-known g c = λ told are.
    let more : c.args.limit < c.of.result = omega (arith, c.if-of-limit.false) in
    subst (λ (r : Rooms). AreRooms r (g.V.Vol.disk c.trim.new.vol)) (sym c.set.ensures.value)
    (trimmed_known c.args.rooms.now c.args.file c.args.limit (g.V.Vol.disk c.args.vol.now) (g.V.Vol.disk c.trim.new.vol) (c.requires.low told) (omega (arith, more, c.of.ensures.value)) (c.trim.ensures.any_moment told).elsewhere (c.in_ok-trim.ensures.len told) are)

pub returns-clause-keeps : goal.returns-clause-keeps
returns-clause-keeps g c = λ told log b base is.
    log_base c.args.file (c.requires.low told) (g.V.Vol.disk c.args.vol.now) (g.V.Vol.disk c.trim.new.vol) log b base is (c.trim.ensures.any_moment told).elsewhere (c.in_ok-trim.ensures.keeps told) (c.in_ok-trim.ensures.durable told)

pub returns-clause-closed : goal.returns-clause-closed
returns-clause-closed g c = λ told.
    closed_kept c.args.file (g.V.Vol.disk c.args.vol.now) (g.V.Vol.disk c.trim.new.vol) (g.met.V.Vol.honest told c.args.vol.now) (c.trim.ensures.any_moment told).elsewhere (c.in_ok-trim.ensures.keeps told) (c.in_ok-trim.ensures.durable told)

pub returns-clause-any_moment : goal.returns-clause-any_moment
returns-clause-any_moment g c = λ told log b base is.
    log_leaves c.args.file (c.requires.low told) (g.V.Vol.disk c.args.vol.now) (g.V.Vol.disk c.trim.new.vol) log b base is (c.trim.ensures.any_moment told)

pub returns-clause-elsewhere : goal.returns-clause-elsewhere
returns-clause-elsewhere g c = λ told.
    (c.trim.ensures.any_moment told).elsewhere

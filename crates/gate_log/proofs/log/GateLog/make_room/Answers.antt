use Rattle.std.proofs.Common.{◌≡◌, ◌≤◌, ◌∙◌, Ok, length, ap, subst, sym, arith}
use Rattle.std.proofs.lemmas.Result.{IfOk-weaker}
use Rattle.vol_disk.specs.Growing.{HasRoom, IsRefused}
use Rattle.vol_disk.specs.declared.room.Room.{Room}
use Rattle.vol_disk.proofs.Moments.{quiet, quiet_on, quiet_durable}
use Rattle.js_base.specs.Bytes.{Bytes}
use Rattle.js_base.proofs.Causes.{rose_after, rose_before}
use Rattle.gate_log.specs.Growing.{KeepsOpen}
use Rattle.gate_log.proofs.LetOn.{always}
use Rattle.gate_log.proofs.Growing.{grows_on, grows_quiet}
use Rattle.gate_log.proofs.Rooms.{keeps_on, keeps_same, opens_on, opens_quiet}
use Rattle.gate_log.proofs.log.GateLog.make_room.Goals as goal

-- ---- a file that is long enough

pub returns-in_err-len-clause-any_moment : goal.returns-in_err-len-clause-any_moment
returns-in_err-len-clause-any_moment g c = λ told.
    let was = g.V.Vol.disk c.args.vol.now in
    let mid = g.V.Vol.disk c.len.new.self in
    opens_quiet c.args.file was mid (c.requires.durable told) (quiet_on was was mid c.args.file (quiet was (g.met.V.Vol.clocked c.args.vol.now)) (c.len.ensures.does told) (c.len.ensures.seen told))

pub returns-in_err-len-clause-lengths : goal.returns-in_err-len-clause-lengths
returns-in_err-len-clause-lengths g c = λ told.
    let was = g.V.Vol.disk c.args.vol.now in
    let mid = g.V.Vol.disk c.len.new.self in
    grows_quiet c.args.file c.args.end was mid (c.requires.durable told) (quiet_on was was mid c.args.file (quiet was (g.met.V.Vol.clocked c.args.vol.now)) (c.len.ensures.does told) (c.len.ensures.seen told))

pub returns-then-end-len-clause-room : goal.returns-then-end-len-clause-room
returns-then-end-len-clause-room g c = λ told. omega (arith, c.in_ok-len.ensures.value told, ap (λ (l : Bytes). length l) (c.len.ensures.seen told))

pub returns-then-end-len-clause-longer : goal.returns-then-end-len-clause-longer
returns-then-end-len-clause-longer g c = λ told. omega (arith, ap (λ (l : Bytes). length l) (c.len.ensures.seen told))

pub returns-then-end-len-clause-size : goal.returns-then-end-len-clause-size
returns-then-end-len-clause-size g c = λ told. omega (arith, ap (λ (l : Bytes). length l) (c.len.ensures.seen told))

pub returns-then-end-len-clause-durable : goal.returns-then-end-len-clause-durable
returns-then-end-len-clause-durable g c = λ told.
    let was = g.V.Vol.disk c.args.vol.now in
    let mid = g.V.Vol.disk c.len.new.self in
    quiet_durable was mid c.args.file (quiet_on was was mid c.args.file (quiet was (g.met.V.Vol.clocked c.args.vol.now)) (c.len.ensures.does told) (c.len.ensures.seen told)) (c.requires.durable told)

pub returns-then-end-len-clause-keeps : goal.returns-then-end-len-clause-keeps
returns-then-end-len-clause-keeps g c = λ told.
    keeps_same ((g.V.Vol.disk c.args.vol.now).seen c.args.file) ((g.V.Vol.disk c.len.new.self).seen c.args.file) (c.len.ensures.seen told)

pub returns-then-end-len-clause-any_moment : goal.returns-then-end-len-clause-any_moment
returns-then-end-len-clause-any_moment g c = λ told.
    let was = g.V.Vol.disk c.args.vol.now in
    let mid = g.V.Vol.disk c.len.new.self in
    opens_quiet c.args.file was mid (c.requires.durable told) (quiet_on was was mid c.args.file (quiet was (g.met.V.Vol.clocked c.args.vol.now)) (c.len.ensures.does told) (c.len.ensures.seen told))

pub returns-then-end-len-clause-lengths : goal.returns-then-end-len-clause-lengths
returns-then-end-len-clause-lengths g c = λ told.
    let was = g.V.Vol.disk c.args.vol.now in
    let mid = g.V.Vol.disk c.len.new.self in
    grows_quiet c.args.file c.args.end was mid (c.requires.durable told) (quiet_on was was mid c.args.file (quiet was (g.met.V.Vol.clocked c.args.vol.now)) (c.len.ensures.does told) (c.len.ensures.seen told))

-- ---- one that gets longer

pub extend-requires-clause-len : goal.extend-requires-clause-len
extend-requires-clause-len g c = λ told. c.in_ok-len.ensures.value told ∙ ap (λ (l : Bytes). length l) (sym (c.len.ensures.seen told))

pub extend-requires-clause-durable : goal.extend-requires-clause-durable
extend-requires-clause-durable g c = λ told.
    let was = g.V.Vol.disk c.args.vol.now in
    let mid = g.V.Vol.disk c.len.new.self in
    quiet_durable was mid c.args.file (quiet_on was was mid c.args.file (quiet was (g.met.V.Vol.clocked c.args.vol.now)) (c.len.ensures.does told) (c.len.ensures.seen told)) (c.requires.durable told)

pub returns-in_err-extend-clause-any_moment : goal.returns-in_err-extend-clause-any_moment
returns-in_err-extend-clause-any_moment g c = λ told.
    let was = g.V.Vol.disk c.args.vol.now in
    let mid = g.V.Vol.disk c.len.new.self in
    opens_on c.args.file was mid (g.V.Vol.disk c.extend.new.vol) (keeps_same (was.seen c.args.file) (mid.seen c.args.file) (c.len.ensures.seen told)) (opens_quiet c.args.file was mid (c.requires.durable told) (quiet_on was was mid c.args.file (quiet was (g.met.V.Vol.clocked c.args.vol.now)) (c.len.ensures.does told) (c.len.ensures.seen told))) (c.extend.ensures.any_moment told)

pub returns-in_err-extend-clause-lengths : goal.returns-in_err-extend-clause-lengths
returns-in_err-extend-clause-lengths g c = λ told.
    let was = g.V.Vol.disk c.args.vol.now in
    let mid = g.V.Vol.disk c.len.new.self in
    grows_on c.args.file c.args.end was mid (g.V.Vol.disk c.extend.new.vol) (grows_quiet c.args.file c.args.end was mid (c.requires.durable told) (quiet_on was was mid c.args.file (quiet was (g.met.V.Vol.clocked c.args.vol.now)) (c.len.ensures.does told) (c.len.ensures.seen told))) (omega (arith, ap (λ (l : Bytes). length l) (c.len.ensures.seen told))) (c.extend.ensures.lengths told)

pub returns-in-Made-clause-any_moment : goal.returns-in-Made-clause-any_moment
returns-in-Made-clause-any_moment g c = λ told.
    let was = g.V.Vol.disk c.args.vol.now in
    let mid = g.V.Vol.disk c.len.new.self in
    opens_on c.args.file was mid (g.V.Vol.disk c.extend.new.vol) (keeps_same (was.seen c.args.file) (mid.seen c.args.file) (c.len.ensures.seen told)) (opens_quiet c.args.file was mid (c.requires.durable told) (quiet_on was was mid c.args.file (quiet was (g.met.V.Vol.clocked c.args.vol.now)) (c.len.ensures.does told) (c.len.ensures.seen told))) (c.extend.ensures.any_moment told)

pub returns-in-Made-clause-lengths : goal.returns-in-Made-clause-lengths
returns-in-Made-clause-lengths g c = λ told.
    let was = g.V.Vol.disk c.args.vol.now in
    let mid = g.V.Vol.disk c.len.new.self in
    grows_on c.args.file c.args.end was mid (g.V.Vol.disk c.extend.new.vol) (grows_quiet c.args.file c.args.end was mid (c.requires.durable told) (quiet_on was was mid c.args.file (quiet was (g.met.V.Vol.clocked c.args.vol.now)) (c.len.ensures.does told) (c.len.ensures.seen told))) (omega (arith, ap (λ (l : Bytes). length l) (c.len.ensures.seen told))) (c.extend.ensures.lengths told)

pub returns-in-Made-clause-keeps : goal.returns-in-Made-clause-keeps
returns-in-Made-clause-keeps g c = λ told.
    subst (λ (l : Bytes). KeepsOpen l ((g.V.Vol.disk c.extend.new.vol).seen c.args.file)) (c.len.ensures.seen told) (c.in_ok-extend.ensures.keeps told)

pub returns-in-Made-clause-room : goal.returns-in-Made-clause-room
returns-in-Made-clause-room g c = λ told. subst (λ (r : Room). HasRoom c.args.end r ((g.V.Vol.disk c.extend.new.vol).seen c.args.file)) c.in-Made.is (c.in_ok-extend.ensures.room told)

pub returns-in-Made-clause-longer : goal.returns-in-Made-clause-longer
returns-in-Made-clause-longer g c = λ told. omega (arith, c.in_ok-extend.ensures.longer told, ap (λ (l : Bytes). length l) (c.len.ensures.seen told))

pub returns-in-Made-clause-size : goal.returns-in-Made-clause-size
returns-in-Made-clause-size g c = λ told. omega (arith, c.in_ok-extend.ensures.size told, ap (λ (l : Bytes). length l) (c.len.ensures.seen told))

-- ---- and less than it was to

pub returns-in-Refused-clause-room : goal.returns-in-Refused-clause-room
returns-in-Refused-clause-room g c = λ told.
    let mid = (g.V.Vol.disk c.extend.new.vol).seen c.args.file in
    let new = (g.V.Vol.disk c.len-in-Refused.new.self).seen c.args.file in
    IfOk-weaker c.len-in-Refused.result (λ len. len ≡ length mid) (λ len. len ≤ length new) (λ len is. omega (arith, is, ap (λ (l : Bytes). length l) (c.len-in-Refused.ensures.seen told))) (c.len-in-Refused.ensures.value told)

pub returns-in-Refused-clause-longer : goal.returns-in-Refused-clause-longer
returns-in-Refused-clause-longer g c = λ told.
    always c.len-in-Refused.result (omega (arith, c.in_ok-extend.ensures.longer told, ap (λ (l : Bytes). length l) (c.len.ensures.seen told), ap (λ (l : Bytes). length l) (c.len-in-Refused.ensures.seen told)))

pub returns-in-Refused-clause-size : goal.returns-in-Refused-clause-size
returns-in-Refused-clause-size g c = λ told.
    always c.len-in-Refused.result (omega (arith, c.in_ok-extend.ensures.size told, ap (λ (l : Bytes). length l) (c.len.ensures.seen told), ap (λ (l : Bytes). length l) (c.len-in-Refused.ensures.seen told)))

pub returns-in-Refused-clause-keeps : goal.returns-in-Refused-clause-keeps
returns-in-Refused-clause-keeps g c = λ told.
    let was = (g.V.Vol.disk c.args.vol.now).seen c.args.file in
    let mid = (g.V.Vol.disk c.extend.new.vol).seen c.args.file in
    let new = (g.V.Vol.disk c.len-in-Refused.new.self).seen c.args.file in
    always c.len-in-Refused.result (keeps_on was mid new (subst (λ (l : Bytes). KeepsOpen l mid) (c.len.ensures.seen told) (c.in_ok-extend.ensures.keeps told)) (keeps_same mid new (c.len-in-Refused.ensures.seen told)))

pub returns-in-Refused-clause-durable : goal.returns-in-Refused-clause-durable
returns-in-Refused-clause-durable g c = λ told.
    let mid = g.V.Vol.disk c.extend.new.vol in
    let new = g.V.Vol.disk c.len-in-Refused.new.self in
    always c.len-in-Refused.result (quiet_durable mid new c.args.file (quiet_on mid mid new c.args.file (quiet mid (g.met.V.Vol.clocked c.extend.new.vol)) (c.len-in-Refused.ensures.does told) (c.len-in-Refused.ensures.seen told)) (c.in_ok-extend.ensures.durable told))

pub returns-in-Refused-clause-any_moment : goal.returns-in-Refused-clause-any_moment
returns-in-Refused-clause-any_moment g c = λ told.
    let was = g.V.Vol.disk c.args.vol.now in
    let mid = g.V.Vol.disk c.len.new.self in
    let longer = g.V.Vol.disk c.extend.new.vol in
    let new = g.V.Vol.disk c.len-in-Refused.new.self in
    let still = quiet_on longer longer new c.args.file (quiet longer (g.met.V.Vol.clocked c.extend.new.vol)) (c.len-in-Refused.ensures.does told) (c.len-in-Refused.ensures.seen told) in
    let so_far = opens_on c.args.file was mid longer (keeps_same (was.seen c.args.file) (mid.seen c.args.file) (c.len.ensures.seen told)) (opens_quiet c.args.file was mid (c.requires.durable told) (quiet_on was was mid c.args.file (quiet was (g.met.V.Vol.clocked c.args.vol.now)) (c.len.ensures.does told) (c.len.ensures.seen told))) (c.extend.ensures.any_moment told) in
    opens_on c.args.file was longer new (subst (λ (l : Bytes). KeepsOpen l (longer.seen c.args.file)) (c.len.ensures.seen told) (c.in_ok-extend.ensures.keeps told)) so_far (opens_quiet c.args.file longer new (c.in_ok-extend.ensures.durable told) still)

pub returns-in-Refused-clause-lengths : goal.returns-in-Refused-clause-lengths
returns-in-Refused-clause-lengths g c = λ told.
    let was = g.V.Vol.disk c.args.vol.now in
    let mid = g.V.Vol.disk c.len.new.self in
    let longer = g.V.Vol.disk c.extend.new.vol in
    let new = g.V.Vol.disk c.len-in-Refused.new.self in
    let same = ap (λ (l : Bytes). length l) (c.len.ensures.seen told) in
    let still = quiet_on longer longer new c.args.file (quiet longer (g.met.V.Vol.clocked c.extend.new.vol)) (c.len-in-Refused.ensures.does told) (c.len-in-Refused.ensures.seen told) in
    let so_far = grows_on c.args.file c.args.end was mid longer (grows_quiet c.args.file c.args.end was mid (c.requires.durable told) (quiet_on was was mid c.args.file (quiet was (g.met.V.Vol.clocked c.args.vol.now)) (c.len.ensures.does told) (c.len.ensures.seen told))) (omega (arith, same)) (c.extend.ensures.lengths told) in
    grows_on c.args.file c.args.end was longer new so_far (omega (arith, c.in_ok-extend.ensures.size told, same)) (grows_quiet c.args.file c.args.end longer new (c.in_ok-extend.ensures.durable told) still)

-- ---- why it is less

pub returns-then-end-len-clause-refused : goal.returns-then-end-len-clause-refused
returns-then-end-len-clause-refused g c = record { later = c.len.ensures.refusals; failed = λ short. absurd (omega (arith, short)) }

pub returns-in-Made-clause-refused : goal.returns-in-Made-clause-refused
returns-in-Made-clause-refused g c = record { later = omega (arith, c.len.ensures.refusals, c.extend.ensures.refused.later); failed = λ short. absurd (omega (arith, short)) }

pub returns-in-Refused-clause-refused : goal.returns-in-Refused-clause-refused
returns-in-Refused-clause-refused g c =
    let first = g.V.Vol.refusals c.args.vol.now in
    let second = g.V.Vol.refusals c.len.new.self in
    let third = g.V.Vol.refusals c.extend.new.vol in
    let last = g.V.Vol.refusals c.len-in-Refused.new.self in
    let rose = c.in_ok-extend.ensures.refused.failed (subst (λ (r : Room). IsRefused (Ok r)) (sym c.in-Refused.is) tt) in
    record {
      later = omega (arith, c.len.ensures.refusals, c.extend.ensures.refused.later, c.len-in-Refused.ensures.refusals);
      failed = λ short. rose_before first second last c.len.ensures.refusals (rose_after second third last rose c.len-in-Refused.ensures.refusals);
    }

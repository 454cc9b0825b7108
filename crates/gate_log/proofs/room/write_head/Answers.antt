use Rattle.std.proofs.Common.{◌≡◌, ◌≤◌, ◌+◌, length, ap, subst, sym, arith}
use Rattle.vol_disk.specs.Steps.{Torn}
use Rattle.vol_disk.specs.Synced.{DoesSynced}
use Rattle.vol_disk.specs.Growing.{HasRoom}
use Rattle.vol_disk.specs.declared.room.Room.{Room}
use Rattle.js_base.specs.Bytes.{Bytes}
use Rattle.gate_log.proofs.Growing.{grows_by, grows_then}
use Rattle.gate_log.proofs.Rooms.{extends_seen, opens_head, opens_short, written_head}
use Rattle.gate_log.proofs.room.write_head.Goals as goal

-- ---- no room

pub returns-in_err-make_room-clause-any_moment : goal.returns-in_err-make_room-clause-any_moment
returns-in_err-make_room-clause-any_moment g c = λ told.
    opens_short c.args.file (g.V.Vol.disk c.args.vol.now) (g.V.Vol.disk c.make_room.new.vol) (c.requires.durable told) (omega (arith, c.requires.len told, c.requires.short)) (c.make_room.ensures.extends told)

pub returns-in_err-make_room-clause-lengths : goal.returns-in_err-make_room-clause-lengths
returns-in_err-make_room-clause-lengths g c = λ told. grows_by c.args.file 21 (g.V.Vol.disk c.args.vol.now) (g.V.Vol.disk c.make_room.new.vol) (c.requires.durable told) (c.make_room.ensures.extends told)

pub returns-in-Refused-clause-headed : goal.returns-in-Refused-clause-headed
returns-in-Refused-clause-headed g c = λ told.
    let new = g.V.Vol.disk c.make_room.new.vol in
    let grown = extends_seen c.args.file 21 (g.V.Vol.disk c.args.vol.now) new (g.met.V.Vol.honest told c.make_room.new.vol) (c.requires.durable told) (c.make_room.ensures.extends told) in
    omega (arith, grown.no_longer, c.requires.len told, c.requires.short)

pub returns-in-Refused-clause-longer : goal.returns-in-Refused-clause-longer
returns-in-Refused-clause-longer g c = λ told.
    let new = g.V.Vol.disk c.make_room.new.vol in
    (extends_seen c.args.file 21 (g.V.Vol.disk c.args.vol.now) new (g.met.V.Vol.honest told c.make_room.new.vol) (c.requires.durable told) (c.make_room.ensures.extends told)).no_shorter

pub returns-in-Refused-clause-any_moment : goal.returns-in-Refused-clause-any_moment
returns-in-Refused-clause-any_moment g c = λ told.
    opens_short c.args.file (g.V.Vol.disk c.args.vol.now) (g.V.Vol.disk c.make_room.new.vol) (c.requires.durable told) (omega (arith, c.requires.len told, c.requires.short)) (c.make_room.ensures.extends told)

pub returns-in-Refused-clause-lengths : goal.returns-in-Refused-clause-lengths
returns-in-Refused-clause-lengths g c = λ told. grows_by c.args.file 21 (g.V.Vol.disk c.args.vol.now) (g.V.Vol.disk c.make_room.new.vol) (c.requires.durable told) (c.make_room.ensures.extends told)

-- ---- the head

pub write_synced-requires-clause-within : goal.write_synced-requires-clause-within
write_synced-requires-clause-within g c = λ told.
    let room : 21 ≤ length ((g.V.Vol.disk c.make_room.new.vol).seen c.args.file) = subst (λ (r : Room). HasRoom 21 r ((g.V.Vol.disk c.make_room.new.vol).seen c.args.file)) c.in-Made.is (c.in_ok-make_room.ensures.room told) in
    let size : length c.empty_log.result ≡ 21 = ap (λ (l : Bytes). length l) c.empty_log.ensures.bytes in
    subst (λ n. 0 + n ≤ length ((g.V.Vol.disk c.make_room.new.vol).seen c.args.file)) (sym size) (omega (arith, room))

pub returns-in_err-write_synced-clause-any_moment : goal.returns-in_err-write_synced-clause-any_moment
returns-in_err-write_synced-clause-any_moment g c = λ told.
    let old = g.V.Vol.disk c.args.vol.now in
    let mid = g.V.Vol.disk c.make_room.new.vol in
    let new = g.V.Vol.disk c.write_synced.new.vol in
    let short : length (old.seen c.args.file) ≤ 21 = omega (arith, c.requires.len told, c.requires.short) in
    let grown = extends_seen c.args.file 21 old mid (g.met.V.Vol.honest told c.make_room.new.vol) (c.requires.durable told) (c.make_room.ensures.extends told) in
    let size : length c.empty_log.result ≡ 21 = ap (λ (l : Bytes). length l) c.empty_log.ensures.bytes in
    opens_head c.args.file old mid new short (omega (arith, grown.no_longer, short)) (opens_short c.args.file old mid (c.requires.durable told) short (c.make_room.ensures.extends told))
    (subst (λ n. DoesSynced c.args.file (Torn 0 n) mid new) size (c.write_synced.ensures.does told))

pub returns-clause-any_moment : goal.returns-clause-any_moment
returns-clause-any_moment g c = λ told.
    let old = g.V.Vol.disk c.args.vol.now in
    let mid = g.V.Vol.disk c.make_room.new.vol in
    let new = g.V.Vol.disk c.write_synced.new.vol in
    let short : length (old.seen c.args.file) ≤ 21 = omega (arith, c.requires.len told, c.requires.short) in
    let grown = extends_seen c.args.file 21 old mid (g.met.V.Vol.honest told c.make_room.new.vol) (c.requires.durable told) (c.make_room.ensures.extends told) in
    let size : length c.empty_log.result ≡ 21 = ap (λ (l : Bytes). length l) c.empty_log.ensures.bytes in
    opens_head c.args.file old mid new short (omega (arith, grown.no_longer, short)) (opens_short c.args.file old mid (c.requires.durable told) short (c.make_room.ensures.extends told))
    (subst (λ n. DoesSynced c.args.file (Torn 0 n) mid new) size (c.write_synced.ensures.does told))

pub returns-in_err-write_synced-clause-lengths : goal.returns-in_err-write_synced-clause-lengths
returns-in_err-write_synced-clause-lengths g c = λ told.
    let old = g.V.Vol.disk c.args.vol.now in
    let mid = g.V.Vol.disk c.make_room.new.vol in
    let new = g.V.Vol.disk c.write_synced.new.vol in
    let grown = extends_seen c.args.file 21 old mid (g.met.V.Vol.honest told c.make_room.new.vol) (c.requires.durable told) (c.make_room.ensures.extends told) in
    let size : length c.empty_log.result ≡ 21 = ap (λ (l : Bytes). length l) c.empty_log.ensures.bytes in
    grows_then c.args.file 21 (Torn 0 21) old mid new (grows_by c.args.file 21 old mid (c.requires.durable told) (c.make_room.ensures.extends told)) (subst (λ n. DoesSynced c.args.file (Torn 0 n) mid new) size (c.write_synced.ensures.does told))
    (λ bytes torn. omega (arith, torn.no_longer, grown.no_longer))

pub returns-clause-lengths : goal.returns-clause-lengths
returns-clause-lengths g c = λ told.
    let old = g.V.Vol.disk c.args.vol.now in
    let mid = g.V.Vol.disk c.make_room.new.vol in
    let new = g.V.Vol.disk c.write_synced.new.vol in
    let grown = extends_seen c.args.file 21 old mid (g.met.V.Vol.honest told c.make_room.new.vol) (c.requires.durable told) (c.make_room.ensures.extends told) in
    let size : length c.empty_log.result ≡ 21 = ap (λ (l : Bytes). length l) c.empty_log.ensures.bytes in
    grows_then c.args.file 21 (Torn 0 21) old mid new (grows_by c.args.file 21 old mid (c.requires.durable told) (c.make_room.ensures.extends told)) (subst (λ n. DoesSynced c.args.file (Torn 0 n) mid new) size (c.write_synced.ensures.does told))
    (λ bytes torn. omega (arith, torn.no_longer, grown.no_longer))

pub returns-clause-headed : goal.returns-clause-headed
returns-clause-headed g c = λ told.
    let old = g.V.Vol.disk c.args.vol.now in
    let mid = g.V.Vol.disk c.make_room.new.vol in
    let grown = extends_seen c.args.file 21 old mid (g.met.V.Vol.honest told c.make_room.new.vol) (c.requires.durable told) (c.make_room.ensures.extends told) in
    let room : 21 ≤ length (mid.seen c.args.file) = subst (λ (r : Room). HasRoom 21 r (mid.seen c.args.file)) c.in-Made.is (c.in_ok-make_room.ensures.room told) in
    written_head c.empty_log.result (mid.seen c.args.file) ((g.V.Vol.disk c.write_synced.new.vol).seen c.args.file) c.empty_log.ensures.bytes (omega (arith, room, grown.no_longer, c.requires.len told, c.requires.short)) (c.in_ok-write_synced.ensures.seen told)

pub returns-clause-longer : goal.returns-clause-longer
returns-clause-longer g c = λ told.
    let long : length ((g.V.Vol.disk c.write_synced.new.vol).seen c.args.file) ≡ 21 = (returns-clause-headed g c told).1 in
    omega (arith, long, c.requires.len told, c.requires.short)

use Rattle.std.proofs.Common.{◌≡◌, ◌≤◌, inl, inr, length, subst, sym, arith}
use Rattle.vol_disk.specs.declared.room.Room.{Room}
use Rattle.gate_log.specs.LogFile.{IsShut}
use Rattle.gate_log.specs.Growing.{IsHeaded}
use Rattle.gate_log.proofs.LetOn.{always}
use Rattle.gate_log.proofs.Growing.{grows_by, grows_more, grows_on}
use Rattle.gate_log.proofs.Rooms.{extends_seen, keeps_longer, keeps_on, keeps_short, keeps_shut, opens_headed, opens_on}
use Rattle.gate_log.proofs.room.extend.Goals as goal

-- ---- a file that has a head

pub returns-then-len-gt-EMPTY_LEN-clause-longer : goal.returns-then-len-gt-EMPTY_LEN-clause-longer
returns-then-len-gt-EMPTY_LEN-clause-longer g c = λ told.
    let old = g.V.Vol.disk c.args.vol.now in
    let grown = extends_seen c.args.file c.args.end old (g.V.Vol.disk c.make_room.new.vol) (g.met.V.Vol.honest told c.make_room.new.vol) (c.requires.durable told) (c.make_room.ensures.extends told) in
    always c.make_room.result grown.no_shorter

pub returns-then-len-gt-EMPTY_LEN-clause-size : goal.returns-then-len-gt-EMPTY_LEN-clause-size
returns-then-len-gt-EMPTY_LEN-clause-size g c = λ told.
    let old = g.V.Vol.disk c.args.vol.now in
    let grown = extends_seen c.args.file c.args.end old (g.V.Vol.disk c.make_room.new.vol) (g.met.V.Vol.honest told c.make_room.new.vol) (c.requires.durable told) (c.make_room.ensures.extends told) in
    always c.make_room.result (omega (arith, grown.no_longer))

pub returns-then-len-gt-EMPTY_LEN-clause-keeps : goal.returns-then-len-gt-EMPTY_LEN-clause-keeps
returns-then-len-gt-EMPTY_LEN-clause-keeps g c = λ told.
    let old = g.V.Vol.disk c.args.vol.now in
    let new = g.V.Vol.disk c.make_room.new.vol in
    let grown = extends_seen c.args.file c.args.end old new (g.met.V.Vol.honest told c.make_room.new.vol) (c.requires.durable told) (c.make_room.ensures.extends told) in
    always c.make_room.result (keeps_longer (old.seen c.args.file) (new.seen c.args.file) (inl (omega (arith, c.requires.len told))) grown.no_shorter grown.front)

pub returns-then-len-gt-EMPTY_LEN-clause-any_moment : goal.returns-then-len-gt-EMPTY_LEN-clause-any_moment
returns-then-len-gt-EMPTY_LEN-clause-any_moment g c = λ told.
    let old = g.V.Vol.disk c.args.vol.now in
    opens_headed c.args.file c.args.end old (g.V.Vol.disk c.make_room.new.vol) (c.requires.durable told) (inl (omega (arith, c.requires.len told))) (c.make_room.ensures.extends told)

pub returns-then-len-gt-EMPTY_LEN-clause-lengths : goal.returns-then-len-gt-EMPTY_LEN-clause-lengths
returns-then-len-gt-EMPTY_LEN-clause-lengths g c = λ told. grows_by c.args.file c.args.end (g.V.Vol.disk c.args.vol.now) (g.V.Vol.disk c.make_room.new.vol) (c.requires.durable told) (c.make_room.ensures.extends told)

-- ---- one that has none, and gets none

pub returns-in_err-write_head-clause-lengths : goal.returns-in_err-write_head-clause-lengths
returns-in_err-write_head-clause-lengths g c = λ told. grows_more c.args.file 21 c.args.end (g.V.Vol.disk c.args.vol.now) (g.V.Vol.disk c.write_head.new.vol) c.requires.head (c.write_head.ensures.lengths told)

pub returns-in-Refused-clause-lengths : goal.returns-in-Refused-clause-lengths
returns-in-Refused-clause-lengths g c = λ told. grows_more c.args.file 21 c.args.end (g.V.Vol.disk c.args.vol.now) (g.V.Vol.disk c.write_head.new.vol) c.requires.head (c.write_head.ensures.lengths told)

pub returns-in-Refused-clause-size : goal.returns-in-Refused-clause-size
returns-in-Refused-clause-size g c = λ told.
    let new = (g.V.Vol.disk c.write_head.new.vol).seen c.args.file in
    let less : length new ≤ 21 = subst (λ (r : Room). IsHeaded r new) c.in-Refused.is (c.in_ok-write_head.ensures.headed told) in
    omega (arith, less, c.requires.head)

pub returns-in-Refused-clause-keeps : goal.returns-in-Refused-clause-keeps
returns-in-Refused-clause-keeps g c = λ told.
    let old = (g.V.Vol.disk c.args.vol.now).seen c.args.file in
    let new = (g.V.Vol.disk c.write_head.new.vol).seen c.args.file in
    let less : length new ≤ 21 = subst (λ (r : Room). IsHeaded r new) c.in-Refused.is (c.in_ok-write_head.ensures.headed told) in
    keeps_short old new (omega (arith, c.requires.len told)) less

-- ---- one that gets a head

pub make_room-requires-in-Made : goal.make_room-requires-in-Made
make_room-requires-in-Made g c = record {
  len = λ told.
      let mid = (g.V.Vol.disk c.write_head.new.vol).seen c.args.file in
      let headed : IsShut mid × (length mid ≡ 21) = subst (λ (r : Room). IsHeaded r mid) c.in-Made.is (c.in_ok-write_head.ensures.headed told) in
      sym headed.1;
}

pub returns-in-Made-clause-longer : goal.returns-in-Made-clause-longer
returns-in-Made-clause-longer g c = λ told.
    let old = g.V.Vol.disk c.args.vol.now in
    let mid = g.V.Vol.disk c.write_head.new.vol in
    let new = g.V.Vol.disk c.make_room-in-Made.new.vol in
    let headed : IsShut (mid.seen c.args.file) × (length (mid.seen c.args.file) ≡ 21) = subst (λ (r : Room). IsHeaded r (mid.seen c.args.file)) c.in-Made.is (c.in_ok-write_head.ensures.headed told) in
    let grown = extends_seen c.args.file c.args.end mid new (g.met.V.Vol.honest told c.make_room-in-Made.new.vol) (c.in_ok-write_head.ensures.durable told) (c.make_room-in-Made.ensures.extends told) in
    always c.make_room-in-Made.result (omega (arith, headed.1, grown.no_shorter, c.requires.len told))

pub returns-in-Made-clause-size : goal.returns-in-Made-clause-size
returns-in-Made-clause-size g c = λ told.
    let mid = g.V.Vol.disk c.write_head.new.vol in
    let new = g.V.Vol.disk c.make_room-in-Made.new.vol in
    let headed : IsShut (mid.seen c.args.file) × (length (mid.seen c.args.file) ≡ 21) = subst (λ (r : Room). IsHeaded r (mid.seen c.args.file)) c.in-Made.is (c.in_ok-write_head.ensures.headed told) in
    let grown = extends_seen c.args.file c.args.end mid new (g.met.V.Vol.honest told c.make_room-in-Made.new.vol) (c.in_ok-write_head.ensures.durable told) (c.make_room-in-Made.ensures.extends told) in
    always c.make_room-in-Made.result (omega (arith, headed.1, grown.no_longer, c.requires.head))

pub returns-in-Made-clause-keeps : goal.returns-in-Made-clause-keeps
returns-in-Made-clause-keeps g c = λ told.
    let old = (g.V.Vol.disk c.args.vol.now).seen c.args.file in
    let mid = g.V.Vol.disk c.write_head.new.vol in
    let new = g.V.Vol.disk c.make_room-in-Made.new.vol in
    let headed : IsShut (mid.seen c.args.file) × (length (mid.seen c.args.file) ≡ 21) = subst (λ (r : Room). IsHeaded r (mid.seen c.args.file)) c.in-Made.is (c.in_ok-write_head.ensures.headed told) in
    let grown = extends_seen c.args.file c.args.end mid new (g.met.V.Vol.honest told c.make_room-in-Made.new.vol) (c.in_ok-write_head.ensures.durable told) (c.make_room-in-Made.ensures.extends told) in
    always c.make_room-in-Made.result
    (keeps_on old (mid.seen c.args.file) (new.seen c.args.file) (keeps_shut old (mid.seen c.args.file) (omega (arith, c.requires.len told)) headed.0) (keeps_longer (mid.seen c.args.file) (new.seen c.args.file) (inr headed.0) grown.no_shorter grown.front))

pub returns-in-Made-clause-any_moment : goal.returns-in-Made-clause-any_moment
returns-in-Made-clause-any_moment g c = λ told.
    let old = g.V.Vol.disk c.args.vol.now in
    let mid = g.V.Vol.disk c.write_head.new.vol in
    let new = g.V.Vol.disk c.make_room-in-Made.new.vol in
    let headed : IsShut (mid.seen c.args.file) × (length (mid.seen c.args.file) ≡ 21) = subst (λ (r : Room). IsHeaded r (mid.seen c.args.file)) c.in-Made.is (c.in_ok-write_head.ensures.headed told) in
    opens_on c.args.file old mid new (keeps_shut (old.seen c.args.file) (mid.seen c.args.file) (omega (arith, c.requires.len told)) headed.0) (c.write_head.ensures.any_moment told)
    (opens_headed c.args.file c.args.end mid new (c.in_ok-write_head.ensures.durable told) (inr headed.0) (c.make_room-in-Made.ensures.extends told))

pub returns-in-Made-clause-lengths : goal.returns-in-Made-clause-lengths
returns-in-Made-clause-lengths g c = λ told.
    let old = g.V.Vol.disk c.args.vol.now in
    let mid = g.V.Vol.disk c.write_head.new.vol in
    let new = g.V.Vol.disk c.make_room-in-Made.new.vol in
    let headed : IsShut (mid.seen c.args.file) × (length (mid.seen c.args.file) ≡ 21) = subst (λ (r : Room). IsHeaded r (mid.seen c.args.file)) c.in-Made.is (c.in_ok-write_head.ensures.headed told) in
    grows_on c.args.file c.args.end old mid new (grows_more c.args.file 21 c.args.end old mid c.requires.head (c.write_head.ensures.lengths told)) (omega (arith, headed.1, c.requires.head))
    (grows_by c.args.file c.args.end mid new (c.in_ok-write_head.ensures.durable told) (c.make_room-in-Made.ensures.extends told))

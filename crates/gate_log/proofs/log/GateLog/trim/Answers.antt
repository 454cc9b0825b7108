use Rattle.std.proofs.Common.{◌∙◌, length, take, min, ap, subst, arith, length-take}
use Rattle.vol_disk.specs.Steps.{CutTo}
use Rattle.vol_disk.proofs.Moments.{quiet, quiet_on, quiet_durable}
use Rattle.js_base.specs.Bytes.{Bytes}
use Rattle.gate_log.proofs.LetOn.{at_ok}
use Rattle.gate_log.proofs.Rooms.{keeps_cut, keeps_same, keeps_take, opens_quiet, opens_then}
use Rattle.gate_log.proofs.log.GateLog.trim.Goals as goal

pub returns-in_err-len-clause-any_moment : goal.returns-in_err-len-clause-any_moment
returns-in_err-len-clause-any_moment g c = λ told.
    let was = g.V.Vol.disk c.args.vol.now in
    let mid = g.V.Vol.disk c.len.new.self in
    opens_quiet c.args.file was mid (c.requires.durable told) (quiet_on was was mid c.args.file (quiet was (g.met.V.Vol.clocked c.args.vol.now)) (c.len.ensures.does told) (c.len.ensures.seen told))

-- ---- a file that is longer

pub cut_synced-requires-clause-within : goal.cut_synced-requires-clause-within
cut_synced-requires-clause-within g c = λ told. omega (arith, c.in_ok-len.ensures.value told, ap (λ (l : Bytes). length l) (c.len.ensures.seen told))

pub cut_synced-requires-clause-durable : goal.cut_synced-requires-clause-durable
cut_synced-requires-clause-durable g c = λ told.
    let was = g.V.Vol.disk c.args.vol.now in
    let mid = g.V.Vol.disk c.len.new.self in
    quiet_durable was mid c.args.file (quiet_on was was mid c.args.file (quiet was (g.met.V.Vol.clocked c.args.vol.now)) (c.len.ensures.does told) (c.len.ensures.seen told)) (c.requires.durable told)

pub returns-then-branch-to-clause-len : goal.returns-then-branch-to-clause-len
returns-then-branch-to-clause-len g c = λ told.
    let mid = (g.V.Vol.disk c.len.new.self).seen c.args.file in
    at_ok c.cut_synced.result (λ is. ap (λ (l : Bytes). length l) is ∙ length-take c.args.to mid ∙ ap (λ (l : Bytes). min c.args.to (length l)) (c.len.ensures.seen told)) (c.cut_synced.ensures.seen told)

pub returns-then-branch-to-clause-keeps : goal.returns-then-branch-to-clause-keeps
returns-then-branch-to-clause-keeps g c = λ told.
    let was = (g.V.Vol.disk c.args.vol.now).seen c.args.file in
    let mid = (g.V.Vol.disk c.len.new.self).seen c.args.file in
    let new = (g.V.Vol.disk c.cut_synced.new.vol).seen c.args.file in
    at_ok c.cut_synced.result (λ is. keeps_take c.args.to was new (c.requires.behind told) (omega (arith, c.in_ok-len.ensures.value told)) (is ∙ ap (λ (l : Bytes). take c.args.to l) (c.len.ensures.seen told))) (c.cut_synced.ensures.seen told)

pub returns-then-branch-to-clause-any_moment : goal.returns-then-branch-to-clause-any_moment
returns-then-branch-to-clause-any_moment g c = λ told.
    let was = g.V.Vol.disk c.args.vol.now in
    let mid = g.V.Vol.disk c.len.new.self in
    let same = c.len.ensures.seen told in
    opens_then c.args.file (CutTo c.args.to) was mid (g.V.Vol.disk c.cut_synced.new.vol) (opens_quiet c.args.file was mid (c.requires.durable told) (quiet_on was was mid c.args.file (quiet was (g.met.V.Vol.clocked c.args.vol.now)) (c.len.ensures.does told) (c.len.ensures.seen told))) (c.cut_synced.ensures.does told)
    (λ bytes cut. let as_was = subst (λ (l : Bytes). CutTo c.args.to l bytes) same cut in keeps_cut c.args.to (was.seen c.args.file) bytes (c.requires.behind told) (omega (arith, c.in_ok-len.ensures.value told)) as_was.no_longer as_was.front)

-- ---- one that is not

pub returns-else-branch-to-clause-len : goal.returns-else-branch-to-clause-len
returns-else-branch-to-clause-len g c = λ told. omega (arith, c.in_ok-len.ensures.value told, ap (λ (l : Bytes). length l) (c.len.ensures.seen told))

pub returns-else-branch-to-clause-keeps : goal.returns-else-branch-to-clause-keeps
returns-else-branch-to-clause-keeps g c = λ told. keeps_same ((g.V.Vol.disk c.args.vol.now).seen c.args.file) ((g.V.Vol.disk c.len.new.self).seen c.args.file) (c.len.ensures.seen told)

pub returns-else-branch-to-clause-durable : goal.returns-else-branch-to-clause-durable
returns-else-branch-to-clause-durable g c = λ told.
    let was = g.V.Vol.disk c.args.vol.now in
    let mid = g.V.Vol.disk c.len.new.self in
    quiet_durable was mid c.args.file (quiet_on was was mid c.args.file (quiet was (g.met.V.Vol.clocked c.args.vol.now)) (c.len.ensures.does told) (c.len.ensures.seen told)) (c.requires.durable told)

pub returns-else-branch-to-clause-any_moment : goal.returns-else-branch-to-clause-any_moment
returns-else-branch-to-clause-any_moment g c = λ told.
    let was = g.V.Vol.disk c.args.vol.now in
    let mid = g.V.Vol.disk c.len.new.self in
    opens_quiet c.args.file was mid (c.requires.durable told) (quiet_on was was mid c.args.file (quiet was (g.met.V.Vol.clocked c.args.vol.now)) (c.len.ensures.does told) (c.len.ensures.seen told))

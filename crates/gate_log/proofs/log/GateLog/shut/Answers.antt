use Rattle.std.proofs.Common.{None, [], length, ap, arith, ◌∙◌, subst, sym}
use Rattle.vol_disk.proofs.Moments.{quiet, quiet_on, quiet_then}
use Rattle.js_base.specs.Bytes.{Bytes}
use Rattle.gate_log.specs.LogFile.{HasOpen}
use Rattle.gate_log.specs.Starting.{IsEmptied}
use Rattle.gate_log.proofs.LetOn.{at_ok}
use Rattle.gate_log.proofs.Emptying.{emptied_closed, emptied_short, starts_quiet, starts_after}
use Rattle.gate_log.proofs.Growing.{long_after, long_quiet}
use Rattle.gate_log.proofs.log.GateLog.shut.Goals as goal

pub returns-then-branch-clause-shut : goal.returns-then-branch-clause-shut
returns-then-branch-clause-shut g c = λ told.
    let mid = (g.V.Vol.disk c.len.new.self).seen c.args.file in
    let new = (g.V.Vol.disk c.close_gate.new.vol).seen c.args.file in
    let long = c.in_ok-len.ensures.value told in
    let same = c.len.ensures.seen told in
    at_ok c.close_gate.result (λ closed. subst (λ (l : Bytes). IsEmptied l new) same (emptied_closed mid new (omega (arith, long, ap length same)) closed)) (c.close_gate.ensures.closed told)

pub returns-else-branch-clause-shut : goal.returns-else-branch-clause-shut
returns-else-branch-clause-shut g c = λ told.
    let was = (g.V.Vol.disk c.args.vol.now).seen c.args.file in
    let mid = (g.V.Vol.disk c.len.new.self).seen c.args.file in
    emptied_short was mid (omega (arith, c.in_ok-len.ensures.value told, ap length (c.len.ensures.seen told)))

pub returns-in_err-len-clause-any_moment : goal.returns-in_err-len-clause-any_moment
returns-in_err-len-clause-any_moment g c = λ told.
    let was = g.V.Vol.disk c.args.vol.now in
    let mid = g.V.Vol.disk c.len.new.self in
    starts_quiet c.args.file was mid (c.requires.durable told) (quiet_on was was mid c.args.file (quiet was (g.met.V.Vol.clocked c.args.vol.now)) (c.len.ensures.does told) (c.len.ensures.seen told))

pub returns-then-branch-clause-any_moment : goal.returns-then-branch-clause-any_moment
returns-then-branch-clause-any_moment g c = λ told.
    let was = g.V.Vol.disk c.args.vol.now in
    let mid = g.V.Vol.disk c.len.new.self in
    starts_after c.args.file was mid (g.V.Vol.disk c.close_gate.new.vol) (c.requires.durable told) (quiet_on was was mid c.args.file (quiet was (g.met.V.Vol.clocked c.args.vol.now)) (c.len.ensures.does told) (c.len.ensures.seen told)) (c.close_gate.ensures.any_moment told)

pub returns-else-branch-clause-any_moment : goal.returns-else-branch-clause-any_moment
returns-else-branch-clause-any_moment g c = λ told.
    let was = g.V.Vol.disk c.args.vol.now in
    let mid = g.V.Vol.disk c.len.new.self in
    starts_quiet c.args.file was mid (c.requires.durable told) (quiet_on was was mid c.args.file (quiet was (g.met.V.Vol.clocked c.args.vol.now)) (c.len.ensures.does told) (c.len.ensures.seen told))

-- ---- how long the file is

pub returns-then-branch-clause-as_long : goal.returns-then-branch-clause-as_long
returns-then-branch-clause-as_long g c = λ told.
    at_ok c.close_gate.result (λ closed. closed.as_long ∙ ap (λ (l : Bytes). length l) (c.len.ensures.seen told)) (c.close_gate.ensures.closed told)

pub returns-in_err-len-clause-lengths : goal.returns-in_err-len-clause-lengths
returns-in_err-len-clause-lengths g c = λ told.
    let was = g.V.Vol.disk c.args.vol.now in
    let mid = g.V.Vol.disk c.len.new.self in
    long_quiet c.args.file was mid (c.requires.durable told) (quiet_on was was mid c.args.file (quiet was (g.met.V.Vol.clocked c.args.vol.now)) (c.len.ensures.does told) (c.len.ensures.seen told))

pub returns-then-branch-clause-lengths : goal.returns-then-branch-clause-lengths
returns-then-branch-clause-lengths g c = λ told.
    let was = g.V.Vol.disk c.args.vol.now in
    let mid = g.V.Vol.disk c.len.new.self in
    long_after c.args.file was mid (g.V.Vol.disk c.close_gate.new.vol) (c.requires.durable told) (quiet_on was was mid c.args.file (quiet was (g.met.V.Vol.clocked c.args.vol.now)) (c.len.ensures.does told) (c.len.ensures.seen told)) (c.close_gate.ensures.lengths told)

pub returns-else-branch-clause-lengths : goal.returns-else-branch-clause-lengths
returns-else-branch-clause-lengths g c = λ told.
    let was = g.V.Vol.disk c.args.vol.now in
    let mid = g.V.Vol.disk c.len.new.self in
    long_quiet c.args.file was mid (c.requires.durable told) (quiet_on was was mid c.args.file (quiet was (g.met.V.Vol.clocked c.args.vol.now)) (c.len.ensures.does told) (c.len.ensures.seen told))

-- ---- a file that holds nothing

pub returns-in_err-len-clause-quiet : goal.returns-in_err-len-clause-quiet
returns-in_err-len-clause-quiet g c = λ told none.
    let was = g.V.Vol.disk c.args.vol.now in
    let mid = g.V.Vol.disk c.len.new.self in
    quiet_on was was mid c.args.file (quiet was (g.met.V.Vol.clocked c.args.vol.now)) (c.len.ensures.does told) (c.len.ensures.seen told)

pub returns-then-branch-clause-quiet : goal.returns-then-branch-clause-quiet
returns-then-branch-clause-quiet g c = λ told none.
    let was = g.V.Vol.disk c.args.vol.now in
    let mid = g.V.Vol.disk c.len.new.self in
    quiet_then was mid (g.V.Vol.disk c.close_gate.new.vol) (quiet_on was was mid c.args.file (quiet was (g.met.V.Vol.clocked c.args.vol.now)) (c.len.ensures.does told) (c.len.ensures.seen told))
    (c.close_gate.ensures.quiet told (subst (λ (l : Bytes). HasOpen l None []) (sym (c.len.ensures.seen told)) none))

pub returns-else-branch-clause-quiet : goal.returns-else-branch-clause-quiet
returns-else-branch-clause-quiet g c = λ told none.
    let was = g.V.Vol.disk c.args.vol.now in
    let mid = g.V.Vol.disk c.len.new.self in
    quiet_on was was mid c.args.file (quiet was (g.met.V.Vol.clocked c.args.vol.now)) (c.len.ensures.does told) (c.len.ensures.seen told)

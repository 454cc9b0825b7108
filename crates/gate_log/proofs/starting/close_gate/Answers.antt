use Rattle.std.proofs.Common.{◌≡◌, ◌∷◌, [], length, ap, subst, arith, ◌∙◌}
use Rattle.vol_disk.specs.Steps.{written, Torn}
use Rattle.js_base.specs.Bytes.{Bytes}
use Rattle.gate_log.proofs.LetOn.{at_ok}
use Rattle.gate_log.proofs.Emptying.{torn_gate, written_gate, closed_already, closed_of, gate_of, open_none, starts_quiet, starts_then}
use Rattle.gate_log.proofs.Growing.{long_quiet, long_then, torn_long}
use Rattle.gate_log.proofs.starting.close_gate.Goals as goal

pub returns-then-branch-eq-OPEN-clause-closed : goal.returns-then-branch-eq-OPEN-clause-closed
returns-then-branch-eq-OPEN-clause-closed g c = λ told.
    let old = (g.V.Vol.disk c.args.vol.now).seen c.args.file in
    let same = (c.byte_at.ensures.quiet told).seen c.args.file in
    at_ok c.write_synced.result (λ is. written_gate old ((g.V.Vol.disk c.write_synced.new.vol).seen c.args.file) (c.requires.long told) (subst (λ (l : Bytes). (g.V.Vol.disk c.write_synced.new.vol).seen c.args.file ≡ written 20 (0 ∷ []) l) same is)) (c.write_synced.ensures.seen told)

pub returns-else-branch-eq-OPEN-clause-closed : goal.returns-else-branch-eq-OPEN-clause-closed
returns-else-branch-eq-OPEN-clause-closed g c = λ told.
    closed_already ((g.V.Vol.disk c.args.vol.now).seen c.args.file) ((g.V.Vol.disk c.byte_at.new.vol).seen c.args.file) c.in_ok-byte_at.field-0 (c.in_ok-byte_at.ensures.value told) c.if-branch-eq-OPEN.false ((c.byte_at.ensures.quiet told).seen c.args.file)

pub returns-then-branch-eq-OPEN-clause-any_moment : goal.returns-then-branch-eq-OPEN-clause-any_moment
returns-then-branch-eq-OPEN-clause-any_moment g c = λ told.
    let was = g.V.Vol.disk c.args.vol.now in
    let mid = g.V.Vol.disk c.byte_at.new.vol in
    let old = was.seen c.args.file in
    let same = (c.byte_at.ensures.quiet told).seen c.args.file in
    starts_then c.args.file (Torn 20 1) was mid (g.V.Vol.disk c.write_synced.new.vol) (starts_quiet c.args.file was mid (c.requires.durable told) (c.byte_at.ensures.quiet told)) (c.write_synced.ensures.does told)
    (λ bytes torn. closed_of old bytes (torn_gate old bytes (c.requires.long told) (gate_of old c.in_ok-byte_at.field-0 (c.in_ok-byte_at.ensures.value told) c.if-branch-eq-OPEN.true) (subst (λ (l : Bytes). Torn 20 1 l bytes) same torn)) (c.requires.long told))

pub returns-else-branch-eq-OPEN-clause-any_moment : goal.returns-else-branch-eq-OPEN-clause-any_moment
returns-else-branch-eq-OPEN-clause-any_moment g c = λ told.
    starts_quiet c.args.file (g.V.Vol.disk c.args.vol.now) (g.V.Vol.disk c.byte_at.new.vol) (c.requires.durable told) (c.byte_at.ensures.quiet told)

-- ---- how long the file is

pub returns-in_err-byte_at-clause-lengths : goal.returns-in_err-byte_at-clause-lengths
returns-in_err-byte_at-clause-lengths g c = λ told.
    long_quiet c.args.file (g.V.Vol.disk c.args.vol.now) (g.V.Vol.disk c.byte_at.new.vol) (c.requires.durable told) (c.byte_at.ensures.quiet told)

pub returns-then-branch-eq-OPEN-clause-lengths : goal.returns-then-branch-eq-OPEN-clause-lengths
returns-then-branch-eq-OPEN-clause-lengths g c = λ told.
    let was = g.V.Vol.disk c.args.vol.now in
    let mid = g.V.Vol.disk c.byte_at.new.vol in
    let same = ap (λ (l : Bytes). length l) ((c.byte_at.ensures.quiet told).seen c.args.file) in
    let long = c.requires.long told in
    long_then c.args.file (Torn 20 1) was mid (g.V.Vol.disk c.write_synced.new.vol) (long_quiet c.args.file was mid (c.requires.durable told) (c.byte_at.ensures.quiet told)) (c.write_synced.ensures.does told)
    (λ bytes torn. torn_long 20 1 (mid.seen c.args.file) bytes (omega (arith, same, long)) torn ∙ same)

pub returns-else-branch-eq-OPEN-clause-lengths : goal.returns-else-branch-eq-OPEN-clause-lengths
returns-else-branch-eq-OPEN-clause-lengths g c = λ told.
    long_quiet c.args.file (g.V.Vol.disk c.args.vol.now) (g.V.Vol.disk c.byte_at.new.vol) (c.requires.durable told) (c.byte_at.ensures.quiet told)

-- ---- a gate that is closed

pub returns-then-branch-eq-OPEN-clause-quiet : goal.returns-then-branch-eq-OPEN-clause-quiet
returns-then-branch-eq-OPEN-clause-quiet g c = λ told none.
    let old = (g.V.Vol.disk c.args.vol.now).seen c.args.file in
    absurd (open_none old (c.requires.long told) (gate_of old c.in_ok-byte_at.field-0 (c.in_ok-byte_at.ensures.value told) c.if-branch-eq-OPEN.true) none)

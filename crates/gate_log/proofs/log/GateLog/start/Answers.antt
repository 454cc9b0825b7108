use Rattle.std.proofs.Common.{◌≡◌, ◌∙◌, ◌+◌, ◌≤◌, [], Some, inr, length, take, drop, refl, sym, ap, subst, arith}
use Rattle.vol_disk.specs.Steps.{Torn}
use Rattle.vol_disk.specs.Synced.{DoesSynced}
use Rattle.js_base.specs.Bytes.{Bytes}
use Rattle.gate_log.specs.LogState.{LogState, new_log}
use Rattle.gate_log.specs.Settled.{IsSettled}
use Rattle.gate_log.proofs.Emptying.{torn_number, written_number, starts_then}
use Rattle.gate_log.proofs.Growing.{long_then, torn_long, written_long}
use Rattle.gate_log.proofs.OneReading.{format_of}
use Rattle.gate_log.proofs.Openings.{settled_log}
use Rattle.gate_log.proofs.log.GateLog.start.Goals as goal

-- the write of the generation is within the file, and is so long
abbrev written_in : Bytes → Bytes
written_in all = take 12 (drop 8 all)

pub write_synced-requires-clause-within : goal.write_synced-requires-clause-within
write_synced-requires-clause-within g c = λ told.
    let mid = (g.V.Vol.disk c.close_gate.new.vol).seen c.args.file in
    let size : length (written_in c.empty_log.result) ≡ 12 = ap (λ (l : Bytes). length (written_in l)) c.empty_log.ensures.bytes in
    let closed = c.in_ok-close_gate.ensures.closed told in
    subst (λ n. 8 + n ≤ length mid) (sym size) (omega (arith, c.requires.long told, closed.as_long))

pub returns-in_err-write_synced-clause-any_moment : goal.returns-in_err-write_synced-clause-any_moment
returns-in_err-write_synced-clause-any_moment g c = λ told.
    let was = g.V.Vol.disk c.args.vol.now in
    let mid = g.V.Vol.disk c.close_gate.new.vol in
    let size : length (written_in c.empty_log.result) ≡ 12 = ap (λ (l : Bytes). length (written_in l)) c.empty_log.ensures.bytes in
    let closed = c.in_ok-close_gate.ensures.closed told in
    starts_then c.args.file (Torn 8 12) was mid (g.V.Vol.disk c.write_synced.new.vol) (c.close_gate.ensures.any_moment told)
    (subst (λ n. DoesSynced c.args.file (Torn 8 n) mid (g.V.Vol.disk c.write_synced.new.vol)) size (c.write_synced.ensures.does told))
    (λ bytes torn. inr (torn_number (was.seen c.args.file) (mid.seen c.args.file) bytes (c.requires.long told) closed torn))

pub returns-clause-any_moment : goal.returns-clause-any_moment
returns-clause-any_moment g c = λ told.
    let was = g.V.Vol.disk c.args.vol.now in
    let mid = g.V.Vol.disk c.close_gate.new.vol in
    let size : length (written_in c.empty_log.result) ≡ 12 = ap (λ (l : Bytes). length (written_in l)) c.empty_log.ensures.bytes in
    let closed = c.in_ok-close_gate.ensures.closed told in
    starts_then c.args.file (Torn 8 12) was mid (g.V.Vol.disk c.write_synced.new.vol) (c.close_gate.ensures.any_moment told)
    (subst (λ n. DoesSynced c.args.file (Torn 8 n) mid (g.V.Vol.disk c.write_synced.new.vol)) size (c.write_synced.ensures.does told))
    (λ bytes torn. inr (torn_number (was.seen c.args.file) (mid.seen c.args.file) bytes (c.requires.long told) closed torn))

pub returns-clause-settled : goal.returns-clause-settled
returns-clause-settled g c = λ told.
    let old = (g.V.Vol.disk c.args.vol.now).seen c.args.file in
    let mid = (g.V.Vol.disk c.close_gate.new.vol).seen c.args.file in
    let new = g.V.Vol.disk c.write_synced.new.vol in
    let whole = c.requires.whole told in
    let is = written_number c.args.generation old mid (new.seen c.args.file) (written_in c.empty_log.result) c.requires.below (c.requires.long told) (format_of old whole.0 whole.1 (c.requires.long told) whole.2)
    (c.in_ok-close_gate.ensures.closed told) (ap (λ (l : Bytes). written_in l) c.empty_log.ensures.bytes) (c.in_ok-write_synced.ensures.seen told) in
    subst (λ (l : LogState). IsSettled l [] new) (sym c.without_batches.ensures.value) (settled_log (new_log c.args.file (Some c.args.generation)) c.args.generation [] new refl refl refl (c.in_ok-write_synced.ensures.durable told) is)

-- ---- how long the file is

pub returns-clause-as_long : goal.returns-clause-as_long
returns-clause-as_long g c = λ told.
    let mid = (g.V.Vol.disk c.close_gate.new.vol).seen c.args.file in
    let size : length (written_in c.empty_log.result) ≡ 12 = ap (λ (l : Bytes). length (written_in l)) c.empty_log.ensures.bytes in
    let closed = c.in_ok-close_gate.ensures.closed told in
    written_long 8 (written_in c.empty_log.result) mid ((g.V.Vol.disk c.write_synced.new.vol).seen c.args.file) (omega (arith, c.requires.long told, closed.as_long, size)) (c.in_ok-write_synced.ensures.seen told) ∙ closed.as_long

pub returns-in_err-write_synced-clause-lengths : goal.returns-in_err-write_synced-clause-lengths
returns-in_err-write_synced-clause-lengths g c = λ told.
    let was = g.V.Vol.disk c.args.vol.now in
    let mid = g.V.Vol.disk c.close_gate.new.vol in
    let size : length (written_in c.empty_log.result) ≡ 12 = ap (λ (l : Bytes). length (written_in l)) c.empty_log.ensures.bytes in
    let closed = c.in_ok-close_gate.ensures.closed told in
    long_then c.args.file (Torn 8 12) was mid (g.V.Vol.disk c.write_synced.new.vol) (c.close_gate.ensures.lengths told)
    (subst (λ n. DoesSynced c.args.file (Torn 8 n) mid (g.V.Vol.disk c.write_synced.new.vol)) size (c.write_synced.ensures.does told))
    (λ bytes torn. torn_long 8 12 (mid.seen c.args.file) bytes (omega (arith, c.requires.long told, closed.as_long)) torn ∙ closed.as_long)

pub returns-clause-lengths : goal.returns-clause-lengths
returns-clause-lengths g c = λ told.
    let was = g.V.Vol.disk c.args.vol.now in
    let mid = g.V.Vol.disk c.close_gate.new.vol in
    let size : length (written_in c.empty_log.result) ≡ 12 = ap (λ (l : Bytes). length (written_in l)) c.empty_log.ensures.bytes in
    let closed = c.in_ok-close_gate.ensures.closed told in
    long_then c.args.file (Torn 8 12) was mid (g.V.Vol.disk c.write_synced.new.vol) (c.close_gate.ensures.lengths told)
    (subst (λ n. DoesSynced c.args.file (Torn 8 n) mid (g.V.Vol.disk c.write_synced.new.vol)) size (c.write_synced.ensures.does told))
    (λ bytes torn. torn_long 8 12 (mid.seen c.args.file) bytes (omega (arith, c.requires.long told, closed.as_long)) torn ∙ closed.as_long)

use Rattle.std.proofs.Common.{◌≡◌, ◌≤◌, ◌+◌, ◌∙◌, refl, length, ap, subst, sym, arith}
use Rattle.gate_log.specs.LogState.{LogState}
use Rattle.vol_disk.specs.Steps.{Torn}
use Rattle.gate_log.specs.Growing.{StaysAsLong}
use Rattle.gate_log.specs.Appending.{AppendsTo}
use Rattle.gate_log.specs.Staging.{StagesTo}
use Rattle.gate_log.proofs.LetOn.{at_both, at_ok}
use Rattle.gate_log.proofs.Appendings.{staging, staged}
use Rattle.gate_log.proofs.Growing.{behind_length, long_by, torn_long, written_long}
use Rattle.gate_log.proofs.log.GateLog.stage.Goals as goal

pub returns-clause-any_moment : goal.returns-clause-any_moment
returns-clause-any_moment g c = λ told.
    let log : LogState = record { file = c.self.inside.file; head = c.self.inside.head; first_end = c.self.inside.ends.first; end = c.self.inside.ends.last } in
    let old = g.V.Vol.disk c.args.vol.now in
    let mid = g.V.Vol.disk c.write_synced.new.vol in
    subst (λ (l : LogState). AppendsTo l c.args.batch.now old mid) c.self.view_is (staging log c.args.batch.now old (g.met.V.Vol.clocked c.args.vol.now) (log.end + 1) (length c.staged.result.now) mid refl (c.write_synced.ensures.does told))

pub returns-clause-staged : goal.returns-clause-staged
returns-clause-staged g c = λ told.
    let log : LogState = record { file = c.self.inside.file; head = c.self.inside.head; first_end = c.self.inside.ends.first; end = c.self.inside.ends.last } in
    let old = g.V.Vol.disk c.args.vol.now in
    let mid = g.V.Vol.disk c.write_synced.new.vol in
    at_both c.write_synced.result
    (λ wrote durable. subst (λ (l : LogState). StagesTo l c.args.batch.now old mid) c.self.view_is (staged log c.args.batch.now old (g.met.V.Vol.clocked c.args.vol.now) (log.end + 1) c.staged.result.now mid refl (c.staged.ensures.value) wrote durable))
    (c.write_synced.ensures.seen told) (c.write_synced.ensures.durable told)

-- ---- how long the file is

pub write_synced-requires-clause-within : goal.write_synced-requires-clause-within
write_synced-requires-clause-within g c = λ told.
    let i = c.self.inside in
    let count = length c.args.batch.now in
    let old = g.V.Vol.disk c.args.vol.now in
    let size : length c.staged.result.now ≡ 9 + count = ap length c.staged.ensures.value ∙ behind_length c.args.batch.now in
    let room : i.ends.last + 10 + count ≤ length (old.seen i.file) = subst (λ (l : LogState). l.end + 10 + count ≤ length (old.seen l.file)) (sym c.self.view_is) (c.requires.room told) in
    omega (arith, room, size)

pub returns-clause-lengths : goal.returns-clause-lengths
returns-clause-lengths g c = λ told.
    let i = c.self.inside in
    let count = length c.args.batch.now in
    let old = g.V.Vol.disk c.args.vol.now in
    let new = g.V.Vol.disk c.write_synced.new.vol in
    let size : length c.staged.result.now ≡ 9 + count = ap length c.staged.ensures.value ∙ behind_length c.args.batch.now in
    let room : i.ends.last + 10 + count ≤ length (old.seen i.file) = subst (λ (l : LogState). l.end + 10 + count ≤ length (old.seen l.file)) (sym c.self.view_is) (c.requires.room told) in
    subst (λ (l : LogState). StaysAsLong l.file old new) c.self.view_is
    (long_by i.file (Torn (i.ends.last + 1) (length c.staged.result.now)) old new (c.write_synced.ensures.does told) (λ bytes torn. torn_long (i.ends.last + 1) (length c.staged.result.now) (old.seen i.file) bytes (omega (arith, room, size)) torn))

pub returns-clause-as_long : goal.returns-clause-as_long
returns-clause-as_long g c = λ told.
    let i = c.self.inside in
    let count = length c.args.batch.now in
    let old = g.V.Vol.disk c.args.vol.now in
    let new = g.V.Vol.disk c.write_synced.new.vol in
    let size : length c.staged.result.now ≡ 9 + count = ap length c.staged.ensures.value ∙ behind_length c.args.batch.now in
    let room : i.ends.last + 10 + count ≤ length (old.seen i.file) = subst (λ (l : LogState). l.end + 10 + count ≤ length (old.seen l.file)) (sym c.self.view_is) (c.requires.room told) in
    at_ok c.write_synced.result (λ wrote. subst (λ (l : LogState). length (new.seen l.file) ≡ length (old.seen l.file)) c.self.view_is (written_long (i.ends.last + 1) c.staged.result.now (old.seen i.file) (new.seen i.file) (omega (arith, room, size)) wrote))
    (c.write_synced.ensures.seen told)

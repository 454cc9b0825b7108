use Rattle.std.proofs.Common.{◌≡◌, ◌∙◌, ℕ, ◌+◌, ◌≤◌, [], ◌∷◌, length, sym, ap, subst, arith}
use Rattle.vol_disk.specs.Images.{IsDurable}
use Rattle.vol_disk.specs.Steps.{written, Torn}
use Rattle.vol_disk.specs.Synced.{DoesSynced}
use Rattle.gate_log.specs.LogState.{LogState, with_batch}
use Rattle.gate_log.specs.declared.ends.Ends.{Ends}
use Rattle.gate_log.proofs.Appendings.{opening, done}
use Rattle.gate_log.proofs.Growing.{long_then, torn_long, written_long}
use Rattle.gate_log.proofs.log.GateLog.append_batch.Goals as goal

pub write_synced-requires-clause-within : goal.write_synced-requires-clause-within
write_synced-requires-clause-within g c = λ told.
    let mid = g.V.Vol.disk c.stage.new.vol in
    subst (λ (l : LogState). l.end + 1 ≤ length (mid.seen l.file)) (sym c.self.view_is) (omega (arith, c.in_ok-stage.ensures.as_long told, c.requires.room told))

pub write_synced-requires-clause-durable : goal.write_synced-requires-clause-durable
write_synced-requires-clause-durable g c = λ told.
    let settled = c.requires.settled told in
    let mid = g.V.Vol.disk c.stage.new.vol in
    subst (λ (l : LogState). IsDurable mid l.file) (sym c.self.view_is) (c.in_ok-stage.ensures.staged told settled.0 settled.1).durable

pub returns-in_err-write_synced-clause-any_moment : goal.returns-in_err-write_synced-clause-any_moment
returns-in_err-write_synced-clause-any_moment g c = λ told.
    let old = g.V.Vol.disk c.args.vol.now in
    let mid = g.V.Vol.disk c.stage.new.vol in
    let new = g.V.Vol.disk c.write_synced.new.vol in
    let short = c.len-count.ensures.short in
    opening c.args.self.now c.args.batch.now old (g.met.V.Vol.clocked c.args.vol.now) mid new short (c.stage.ensures.any_moment told) (c.in_ok-stage.ensures.staged told) (subst (λ (l : LogState). DoesSynced l.file (Torn l.end 1) mid new) c.self.view_is (c.write_synced.ensures.does told))

pub returns-clause-any_moment : goal.returns-clause-any_moment
returns-clause-any_moment g c = λ told.
    let old = g.V.Vol.disk c.args.vol.now in
    let mid = g.V.Vol.disk c.stage.new.vol in
    let new = g.V.Vol.disk c.write_synced.new.vol in
    let short = c.len-count.ensures.short in
    opening c.args.self.now c.args.batch.now old (g.met.V.Vol.clocked c.args.vol.now) mid new short (c.stage.ensures.any_moment told) (c.in_ok-stage.ensures.staged told) (subst (λ (l : LogState). DoesSynced l.file (Torn l.end 1) mid new) c.self.view_is (c.write_synced.ensures.does told))

pub returns-clause-appended : goal.returns-clause-appended
returns-clause-appended g c = λ told.
    let old = g.V.Vol.disk c.args.vol.now in
    let mid = g.V.Vol.disk c.stage.new.vol in
    let new = g.V.Vol.disk c.write_synced.new.vol in
    let short = c.len-count.ensures.short in
    let after : LogState = record { file = c.self.inside.file; head = c.self.inside.head; first_end = c.before-self-inside.result.first; end = c.before-self-inside.result.last } in
    let was : LogState = record { file = c.self.inside.file; head = c.self.inside.head; first_end = c.self.inside.ends.first; end = c.self.inside.ends.last } in
    let is : after ≡ with_batch c.args.self.now (length c.args.batch.now) =
    ap (λ (e : Ends). record { file = c.self.inside.file; head = c.self.inside.head; first_end = e.first; end = e.last }) c.before-self-inside.ensures.value
    ∙ ap (λ (n : ℕ). with_batch was n) c.len-count.ensures.value ∙ ap (λ (l : LogState). with_batch l (length c.args.batch.now)) c.self.view_is in
    done c.args.self.now c.args.batch.now old (g.met.V.Vol.clocked c.args.vol.now) mid new after short c.requires.head (c.in_ok-stage.ensures.staged told)
    (subst (λ (l : LogState). new.seen l.file ≡ written l.end (1 ∷ []) (mid.seen l.file)) c.self.view_is (c.in_ok-write_synced.ensures.seen told))
    (subst (λ (l : LogState). IsDurable new l.file) c.self.view_is (c.in_ok-write_synced.ensures.durable told)) is

-- ---- how long the file is

pub returns-in_err-write_synced-clause-lengths : goal.returns-in_err-write_synced-clause-lengths
returns-in_err-write_synced-clause-lengths g c = λ told.
    let log = c.args.self.now in
    let old = g.V.Vol.disk c.args.vol.now in
    let mid = g.V.Vol.disk c.stage.new.vol in
    let new = g.V.Vol.disk c.write_synced.new.vol in
    let same = c.in_ok-stage.ensures.as_long told in
    long_then log.file (Torn log.end 1) old mid new (c.stage.ensures.lengths told) (subst (λ (l : LogState). DoesSynced l.file (Torn l.end 1) mid new) c.self.view_is (c.write_synced.ensures.does told))
    (λ bytes torn. torn_long log.end 1 (mid.seen log.file) bytes (omega (arith, same, c.requires.room told)) torn ∙ same)

pub returns-clause-lengths : goal.returns-clause-lengths
returns-clause-lengths g c = λ told.
    let log = c.args.self.now in
    let old = g.V.Vol.disk c.args.vol.now in
    let mid = g.V.Vol.disk c.stage.new.vol in
    let new = g.V.Vol.disk c.write_synced.new.vol in
    let same = c.in_ok-stage.ensures.as_long told in
    long_then log.file (Torn log.end 1) old mid new (c.stage.ensures.lengths told) (subst (λ (l : LogState). DoesSynced l.file (Torn l.end 1) mid new) c.self.view_is (c.write_synced.ensures.does told))
    (λ bytes torn. torn_long log.end 1 (mid.seen log.file) bytes (omega (arith, same, c.requires.room told)) torn ∙ same)

pub returns-clause-as_long : goal.returns-clause-as_long
returns-clause-as_long g c = λ told.
    let log = c.args.self.now in
    let mid = g.V.Vol.disk c.stage.new.vol in
    let new = g.V.Vol.disk c.write_synced.new.vol in
    let same = c.in_ok-stage.ensures.as_long told in
    let wrote = subst (λ (l : LogState). new.seen l.file ≡ written l.end (1 ∷ []) (mid.seen l.file)) c.self.view_is (c.in_ok-write_synced.ensures.seen told) in
    written_long log.end (1 ∷ []) (mid.seen log.file) (new.seen log.file) (omega (arith, same, c.requires.room told)) wrote ∙ same

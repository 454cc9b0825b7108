use Rattle.std.proofs.Common.{List, arith, sym, subst}
use Rattle.std.specs.Prelude.{All}
use Rattle.vol_disk.specs.Images.{AreBytes}
use Rattle.block_writing.specs.declared.run.Run.{Run}
use Rattle.block_writing.specs.Runs.{AreApart, IsShort}
use Rattle.block_writing.specs.Writing.{AreWithin, ChangesRuns, IsUntouched, IsWritten}
use Rattle.stream_store.proofs.Committed.{appending, late_base, writing}
use Rattle.stream_store.proofs.Known.{log_as_long}
use Rattle.stream_store.proofs.StagedNext.{either_settled, next_appending, next_late, next_writing}
use Rattle.stream_store.proofs.Unused.{rests_after, untouched}
use Rattle.stream_store.proofs.writing.write_staged.Goals as goal

pub write_runs-requires : goal.write_runs-requires
write_runs-requires g c =
    record {
      within = λ told. subst (AreWithin (g.V.Vol.disk c.args.vol.now)) (sym c.as_slice.ensures.value) (c.requires.room told).in_files;
      short = subst (All IsShort) (sym c.as_slice.ensures.value) c.requires.ready.short;
      apart = subst AreApart (sym c.as_slice.ensures.value) c.requires.ready.apart;
    }

pub returns-in_err-write_runs-clause-any_moment : goal.returns-in_err-write_runs-clause-any_moment
returns-in_err-write_runs-clause-any_moment g c = λ told b base next on.
    writing c.args.log.now b on.effects c.args.staged.now base next (g.V.Vol.disk c.args.vol.now) on.base_is on.next_is on.staged_is.prepared (g.V.Vol.disk c.write_runs.new.vol) (subst (λ (l : List Run). ChangesRuns l (g.V.Vol.disk c.args.vol.now) (g.V.Vol.disk c.write_runs.new.vol)) c.as_slice.ensures.value (c.write_runs.ensures.changes told))

pub append_batch-requires : goal.append_batch-requires
append_batch-requires g c =
    record {
      settled = λ told. either_settled c.args.log.now c.args.staged.now (g.V.Vol.disk c.args.vol.now) (g.V.Vol.disk c.write_runs.new.vol)
          (subst (λ (l : List Run). ChangesRuns l (g.V.Vol.disk c.args.vol.now) (g.V.Vol.disk c.write_runs.new.vol)) c.as_slice.ensures.value (c.write_runs.ensures.changes told)) (subst (λ (l : List Run). All (λ run. AreBytes run.bytes) l) c.as_slice.ensures.value c.in_ok-write_runs.ensures.bytes) (subst (λ (l : List Run). All (IsWritten (g.V.Vol.disk c.args.vol.now) (g.V.Vol.disk c.write_runs.new.vol)) l) c.as_slice.ensures.value (c.in_ok-write_runs.ensures.written told)) (g.met.V.Vol.honest told c.write_runs.new.vol) (c.requires.staged told);
      head = c.requires.ready.head;
      room = λ told.
          let was = (c.requires.room told).in_log in
          let same = c.in_ok-write_runs.ensures.as_long told c.args.log.now.file in
          omega (arith, was, same);
      end = let short = c.requires.ready.end in omega (arith, short);
    }

pub returns-in_err-append_batch-clause-any_moment : goal.returns-in_err-append_batch-clause-any_moment
returns-in_err-append_batch-clause-any_moment g c = λ told b base next on.
    appending c.args.log.now b on.effects c.args.staged.now base next (g.V.Vol.disk c.args.vol.now) on.base_is on.next_is on.staged_is.prepared (g.V.Vol.disk c.write_runs.new.vol)
    (subst (λ (l : List Run). ChangesRuns l (g.V.Vol.disk c.args.vol.now) (g.V.Vol.disk c.write_runs.new.vol)) c.as_slice.ensures.value (c.write_runs.ensures.changes told)) (subst (λ (l : List Run). All (λ run. AreBytes run.bytes) l) c.as_slice.ensures.value c.in_ok-write_runs.ensures.bytes) (subst (λ (l : List Run). All (IsWritten (g.V.Vol.disk c.args.vol.now) (g.V.Vol.disk c.write_runs.new.vol)) l) c.as_slice.ensures.value (c.in_ok-write_runs.ensures.written told)) on.staged_is.batch on.staged_is.bytes (g.met.V.Vol.honest told c.write_runs.new.vol) c.requires.ready.end (g.V.Vol.disk c.append_batch.new.vol)
    (c.append_batch.ensures.any_moment told)

pub returns-clause-any_moment : goal.returns-clause-any_moment
returns-clause-any_moment g c = λ told b base next on.
    appending c.args.log.now b on.effects c.args.staged.now base next (g.V.Vol.disk c.args.vol.now) on.base_is on.next_is on.staged_is.prepared (g.V.Vol.disk c.write_runs.new.vol)
    (subst (λ (l : List Run). ChangesRuns l (g.V.Vol.disk c.args.vol.now) (g.V.Vol.disk c.write_runs.new.vol)) c.as_slice.ensures.value (c.write_runs.ensures.changes told)) (subst (λ (l : List Run). All (λ run. AreBytes run.bytes) l) c.as_slice.ensures.value c.in_ok-write_runs.ensures.bytes) (subst (λ (l : List Run). All (IsWritten (g.V.Vol.disk c.args.vol.now) (g.V.Vol.disk c.write_runs.new.vol)) l) c.as_slice.ensures.value (c.in_ok-write_runs.ensures.written told)) on.staged_is.batch on.staged_is.bytes (g.met.V.Vol.honest told c.write_runs.new.vol) c.requires.ready.end (g.V.Vol.disk c.append_batch.new.vol)
    (c.append_batch.ensures.any_moment told)

pub returns-clause-written : goal.returns-clause-written
returns-clause-written g c = λ told b base next on.
    late_base c.args.log.now b on.effects c.args.staged.now base next (g.V.Vol.disk c.args.vol.now) on.base_is on.next_is on.staged_is.prepared (g.V.Vol.disk c.write_runs.new.vol)
    (subst (λ (l : List Run). ChangesRuns l (g.V.Vol.disk c.args.vol.now) (g.V.Vol.disk c.write_runs.new.vol)) c.as_slice.ensures.value (c.write_runs.ensures.changes told)) (subst (λ (l : List Run). All (λ run. AreBytes run.bytes) l) c.as_slice.ensures.value c.in_ok-write_runs.ensures.bytes) (subst (λ (l : List Run). All (IsWritten (g.V.Vol.disk c.args.vol.now) (g.V.Vol.disk c.write_runs.new.vol)) l) c.as_slice.ensures.value (c.in_ok-write_runs.ensures.written told)) on.staged_is.batch on.staged_is.bytes (g.met.V.Vol.honest told c.write_runs.new.vol) c.requires.ready.end (g.V.Vol.disk c.append_batch.new.vol)
    (c.append_batch.ensures.any_moment told) c.append_batch.new.self c.in_ok-append_batch.ensures.log (c.in_ok-append_batch.ensures.appended told)

pub returns-in_err-write_runs-clause-elsewhere : goal.returns-in_err-write_runs-clause-elsewhere
returns-in_err-write_runs-clause-elsewhere g c = λ told file apart none.
    (c.write_runs.ensures.changes told).elsewhere file (subst (λ (l : List Run). IsUntouched l file) (sym c.as_slice.ensures.value) (untouched c.args.staged.now.runs.items file none))

pub returns-in_err-append_batch-clause-elsewhere : goal.returns-in_err-append_batch-clause-elsewhere
returns-in_err-append_batch-clause-elsewhere g c = λ told file apart none.
    let settled = either_settled c.args.log.now c.args.staged.now (g.V.Vol.disk c.args.vol.now) (g.V.Vol.disk c.write_runs.new.vol)
    (subst (λ (l : List Run). ChangesRuns l (g.V.Vol.disk c.args.vol.now) (g.V.Vol.disk c.write_runs.new.vol)) c.as_slice.ensures.value (c.write_runs.ensures.changes told)) (subst (λ (l : List Run). All (λ run. AreBytes run.bytes) l) c.as_slice.ensures.value c.in_ok-write_runs.ensures.bytes) (subst (λ (l : List Run). All (IsWritten (g.V.Vol.disk c.args.vol.now) (g.V.Vol.disk c.write_runs.new.vol)) l) c.as_slice.ensures.value (c.in_ok-write_runs.ensures.written told)) (g.met.V.Vol.honest told c.write_runs.new.vol) (c.requires.staged told) in
    rests_after file (g.V.Vol.disk c.args.vol.now) (g.V.Vol.disk c.write_runs.new.vol) (g.V.Vol.disk c.append_batch.new.vol)
    ((c.write_runs.ensures.changes told).elsewhere file (subst (λ (l : List Run). IsUntouched l file) (sym c.as_slice.ensures.value) (untouched c.args.staged.now.runs.items file none)))
    ((c.append_batch.ensures.any_moment told settled.0 settled.1).elsewhere file apart)

pub returns-clause-elsewhere : goal.returns-clause-elsewhere
returns-clause-elsewhere g c = λ told file apart none.
    let settled = either_settled c.args.log.now c.args.staged.now (g.V.Vol.disk c.args.vol.now) (g.V.Vol.disk c.write_runs.new.vol)
    (subst (λ (l : List Run). ChangesRuns l (g.V.Vol.disk c.args.vol.now) (g.V.Vol.disk c.write_runs.new.vol)) c.as_slice.ensures.value (c.write_runs.ensures.changes told)) (subst (λ (l : List Run). All (λ run. AreBytes run.bytes) l) c.as_slice.ensures.value c.in_ok-write_runs.ensures.bytes) (subst (λ (l : List Run). All (IsWritten (g.V.Vol.disk c.args.vol.now) (g.V.Vol.disk c.write_runs.new.vol)) l) c.as_slice.ensures.value (c.in_ok-write_runs.ensures.written told)) (g.met.V.Vol.honest told c.write_runs.new.vol) (c.requires.staged told) in
    rests_after file (g.V.Vol.disk c.args.vol.now) (g.V.Vol.disk c.write_runs.new.vol) (g.V.Vol.disk c.append_batch.new.vol)
    ((c.write_runs.ensures.changes told).elsewhere file (subst (λ (l : List Run). IsUntouched l file) (sym c.as_slice.ensures.value) (untouched c.args.staged.now.runs.items file none)))
    ((c.append_batch.ensures.any_moment told settled.0 settled.1).elsewhere file apart)

pub returns-clause-as_long : goal.returns-clause-as_long
returns-clause-as_long g c = λ told.
    let settled = either_settled c.args.log.now c.args.staged.now (g.V.Vol.disk c.args.vol.now) (g.V.Vol.disk c.write_runs.new.vol)
    (subst (λ (l : List Run). ChangesRuns l (g.V.Vol.disk c.args.vol.now) (g.V.Vol.disk c.write_runs.new.vol)) c.as_slice.ensures.value (c.write_runs.ensures.changes told)) (subst (λ (l : List Run). All (λ run. AreBytes run.bytes) l) c.as_slice.ensures.value c.in_ok-write_runs.ensures.bytes) (subst (λ (l : List Run). All (IsWritten (g.V.Vol.disk c.args.vol.now) (g.V.Vol.disk c.write_runs.new.vol)) l) c.as_slice.ensures.value (c.in_ok-write_runs.ensures.written told)) (g.met.V.Vol.honest told c.write_runs.new.vol) (c.requires.staged told) in
    log_as_long c.args.log.now.file (g.V.Vol.disk c.args.vol.now) (g.V.Vol.disk c.write_runs.new.vol) (g.V.Vol.disk c.append_batch.new.vol) (c.in_ok-write_runs.ensures.as_long told) (c.append_batch.ensures.any_moment told settled.0 settled.1).elsewhere (c.in_ok-append_batch.ensures.as_long told)

-- ---- into the next log

pub returns-in_err-write_runs-clause-next_any_moment : goal.returns-in_err-write_runs-clause-next_any_moment
returns-in_err-write_runs-clause-next_any_moment g c = λ told log b base next t.
    next_writing log b base next c.args.staged.now c.args.log.now (g.V.Vol.disk c.args.vol.now) t (g.V.Vol.disk c.write_runs.new.vol) (subst (λ (l : List Run). ChangesRuns l (g.V.Vol.disk c.args.vol.now) (g.V.Vol.disk c.write_runs.new.vol)) c.as_slice.ensures.value (c.write_runs.ensures.changes told))

pub returns-in_err-append_batch-clause-next_any_moment : goal.returns-in_err-append_batch-clause-next_any_moment
returns-in_err-append_batch-clause-next_any_moment g c = λ told log b base next t.
    next_appending log b base next c.args.staged.now c.args.log.now (g.V.Vol.disk c.args.vol.now) t (g.V.Vol.disk c.write_runs.new.vol) (subst (λ (l : List Run). ChangesRuns l (g.V.Vol.disk c.args.vol.now) (g.V.Vol.disk c.write_runs.new.vol)) c.as_slice.ensures.value (c.write_runs.ensures.changes told))
    (subst (λ (l : List Run). All (λ run. AreBytes run.bytes) l) c.as_slice.ensures.value c.in_ok-write_runs.ensures.bytes) (subst (λ (l : List Run). All (IsWritten (g.V.Vol.disk c.args.vol.now) (g.V.Vol.disk c.write_runs.new.vol)) l) c.as_slice.ensures.value (c.in_ok-write_runs.ensures.written told)) (g.met.V.Vol.honest told c.write_runs.new.vol) c.requires.ready.end (g.V.Vol.disk c.append_batch.new.vol) (c.append_batch.ensures.any_moment told)

pub returns-clause-next_any_moment : goal.returns-clause-next_any_moment
returns-clause-next_any_moment g c = λ told log b base next t.
    next_appending log b base next c.args.staged.now c.args.log.now (g.V.Vol.disk c.args.vol.now) t (g.V.Vol.disk c.write_runs.new.vol) (subst (λ (l : List Run). ChangesRuns l (g.V.Vol.disk c.args.vol.now) (g.V.Vol.disk c.write_runs.new.vol)) c.as_slice.ensures.value (c.write_runs.ensures.changes told))
    (subst (λ (l : List Run). All (λ run. AreBytes run.bytes) l) c.as_slice.ensures.value c.in_ok-write_runs.ensures.bytes) (subst (λ (l : List Run). All (IsWritten (g.V.Vol.disk c.args.vol.now) (g.V.Vol.disk c.write_runs.new.vol)) l) c.as_slice.ensures.value (c.in_ok-write_runs.ensures.written told)) (g.met.V.Vol.honest told c.write_runs.new.vol) c.requires.ready.end (g.V.Vol.disk c.append_batch.new.vol) (c.append_batch.ensures.any_moment told)

pub returns-clause-next_written : goal.returns-clause-next_written
returns-clause-next_written g c = λ told log b base next t.
    next_late log b base next c.args.staged.now c.args.log.now (g.V.Vol.disk c.args.vol.now) t (g.V.Vol.disk c.write_runs.new.vol) (subst (λ (l : List Run). ChangesRuns l (g.V.Vol.disk c.args.vol.now) (g.V.Vol.disk c.write_runs.new.vol)) c.as_slice.ensures.value (c.write_runs.ensures.changes told))
    (subst (λ (l : List Run). All (λ run. AreBytes run.bytes) l) c.as_slice.ensures.value c.in_ok-write_runs.ensures.bytes) (subst (λ (l : List Run). All (IsWritten (g.V.Vol.disk c.args.vol.now) (g.V.Vol.disk c.write_runs.new.vol)) l) c.as_slice.ensures.value (c.in_ok-write_runs.ensures.written told)) (g.met.V.Vol.honest told c.write_runs.new.vol) c.requires.ready.end (g.V.Vol.disk c.append_batch.new.vol) (c.append_batch.ensures.any_moment told) c.append_batch.new.self c.in_ok-append_batch.ensures.log
    (c.in_ok-append_batch.ensures.appended told)

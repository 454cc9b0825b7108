use Rattle.std.proofs.Common.{arith}
use Rattle.stream_store.specs.Clearing.{IsUsed}
use Rattle.stream_store.proofs.Cleared.{cleared_all, cleared_more, spares_quiet, spares_then}
use Rattle.stream_store.proofs.clearing.clear_files.Goals as goal

pub returns-in_err-files_end-clause-spares : goal.returns-in_err-files_end-clause-spares
returns-in_err-files_end-clause-spares g c = λ told. spares_quiet (IsUsed c.args.table.now) (g.V.Vol.disk c.args.vol.now) (g.V.Vol.disk c.files_end.new.self) (c.files_end.ensures.quiet told)

pub returns-in_err-clear_file-clause-spares : goal.returns-in_err-clear_file-clause-spares
returns-in_err-clear_file-clause-spares g c = λ told.
    spares_then (IsUsed c.args.table.now) (g.V.Vol.disk c.args.vol.now) (g.V.Vol.disk c.loop-file.vol) (g.V.Vol.disk c.clear_file.new.vol) (c.loop-file.invariant.cleared told).spares (c.clear_file.ensures.spares told)

pub loop-file-preserved : goal.loop-file-preserved
loop-file-preserved g c = record {
  cleared = λ told.
      cleared_more c.args.table.now c.loop-file.file (g.V.Vol.disk c.args.vol.now) (g.V.Vol.disk c.loop-file.vol) (g.V.Vol.disk c.clear_file.new.vol) (c.loop-file.invariant.cleared told)
      (c.in_ok-clear_file.ensures.cleared told) (c.clear_file.ensures.spares told) (c.clear_file.ensures.elsewhere told);
  faults = omega (arith, c.loop-file.invariant.faults, c.clear_file.ensures.cause.later);
  refusals = omega (arith, c.loop-file.invariant.refusals, c.clear_file.ensures.refusals);
  moments = omega (arith, c.loop-file.invariant.moments, c.clear_file.ensures.later);
}

-- behind the last file with bytes
pub returns-clause-cleared : goal.returns-clause-cleared
returns-clause-cleared g c = λ told.
    cleared_all c.args.table.now c.in_ok-files_end.field-0 c.loop-file.file (g.V.Vol.disk c.args.vol.now) (g.V.Vol.disk c.files_end.new.self) (g.V.Vol.disk c.loop-file.vol)
    (g.met.V.Vol.honest told c.files_end.new.self) (c.files_end.ensures.quiet told) (c.in_ok-files_end.ensures.left told) (omega arith) (c.loop-file.invariant.cleared told)

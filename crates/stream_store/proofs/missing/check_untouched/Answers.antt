use Rattle.std.proofs.Common.{Err, arith, refl}
use Rattle.std.proofs.lemmas.Result.{err_from_is_err_and}
use Rattle.vol_disk.proofs.Moments.{quiet_then}
use Rattle.stream_store.proofs.Untouched.{gone_all, touched_fault, within_all, within_first, within_more}
use Rattle.stream_store.specs.declared.fault.OpenFault.TheVariants.{NoRoom}
use Rattle.stream_store.proofs.Faults.{never_told, volume_roomy}
use Rattle.stream_store.proofs.missing.check_untouched.Goals as goal

pub loop-file-init : goal.loop-file-init
loop-file-init g c = record {
  within = λ told. within_first (g.V.Vol.disk c.files_end.new.self) (g.met.V.Vol.clocked c.files_end.new.self);
  faults = c.files_end.ensures.cause.later;
  refusals = c.files_end.ensures.refusals;
  moments = c.files_end.ensures.later;
}

-- a file has more
pub returns-in_err-check_file-clause-fault : goal.returns-in_err-check_file-clause-fault
returns-in_err-check_file-clause-fault g c = λ told.
    let p = err_from_is_err_and c.from_residual-in_err-check_file.result c.from_residual-in_err-check_file.ensures.1 in
    rw (p.1, p.2) (touched_fault c.loop-file.file (g.V.Vol.disk c.args.vol.now) (g.V.Vol.disk c.files_end.new.self) (g.V.Vol.disk c.loop-file.vol) c.in_err-check_file.field-0.0 (omega arith) (c.files_end.ensures.quiet told)
    (c.loop-file.invariant.within told) (c.in_err-check_file.ensures.fault told))

pub returns-in_err-check_file-clause-quiet : goal.returns-in_err-check_file-clause-quiet
returns-in_err-check_file-clause-quiet g c = λ told.
    quiet_then (g.V.Vol.disk c.args.vol.now) (g.V.Vol.disk c.loop-file.vol) (g.V.Vol.disk c.check_file.new.vol)
    (quiet_then (g.V.Vol.disk c.args.vol.now) (g.V.Vol.disk c.files_end.new.self) (g.V.Vol.disk c.loop-file.vol) (c.files_end.ensures.quiet told) (c.loop-file.invariant.within told).still) (c.check_file.ensures.quiet told)

pub loop-file-preserved : goal.loop-file-preserved
loop-file-preserved g c = record {
  within = λ told.
      within_more c.loop-file.file (g.V.Vol.disk c.files_end.new.self) (g.V.Vol.disk c.loop-file.vol) (g.V.Vol.disk c.check_file.new.vol) (c.loop-file.invariant.within told) (c.in_ok-check_file.ensures.within told)
      (c.check_file.ensures.quiet told) (c.in_ok-check_file.ensures.durable told);
  faults = omega (arith, c.loop-file.invariant.faults, c.check_file.ensures.cause.later);
  refusals = omega (arith, c.loop-file.invariant.refusals, c.check_file.ensures.refusals);
  moments = omega (arith, c.loop-file.invariant.moments, c.check_file.ensures.later);
}

-- none has
pub returns-clause-untouched : goal.returns-clause-untouched
returns-clause-untouched g c = λ told.
    within_all c.in_ok-files_end.field-0 c.loop-file.file (g.V.Vol.disk c.args.vol.now) (g.V.Vol.disk c.files_end.new.self) (g.V.Vol.disk c.loop-file.vol) (g.met.V.Vol.honest told c.files_end.new.self)
    (c.files_end.ensures.quiet told) (c.in_ok-files_end.ensures.left told) (omega arith) (c.loop-file.invariant.within told)

pub returns-clause-gone : goal.returns-clause-gone
returns-clause-gone g c = λ told.
    gone_all c.in_ok-files_end.field-0 c.loop-file.file (g.V.Vol.disk c.args.vol.now) (g.V.Vol.disk c.files_end.new.self) (g.V.Vol.disk c.loop-file.vol) (g.met.V.Vol.honest told c.files_end.new.self)
    (c.files_end.ensures.quiet told) (c.in_ok-files_end.ensures.left told) (omega arith) (c.loop-file.invariant.within told)

pub returns-clause-quiet : goal.returns-clause-quiet
returns-clause-quiet g c = λ told.
    quiet_then (g.V.Vol.disk c.args.vol.now) (g.V.Vol.disk c.files_end.new.self) (g.V.Vol.disk c.loop-file.vol) (c.files_end.ensures.quiet told) (c.loop-file.invariant.within told).still

-- it is not told for want of room
pub returns-in_err-files_end-clause-no_room : goal.returns-in_err-files_end-clause-no_room
returns-in_err-files_end-clause-no_room g c = volume_roomy c.from_residual.result c.from_residual.ensures.1

pub returns-in_err-check_file-clause-no_room : goal.returns-in_err-check_file-clause-no_room
returns-in_err-check_file-clause-no_room g c =
    never_told c.from_residual-in_err-check_file.result (Err c.in_err-check_file.field-0.0) c.in_err-check_file.field-0.0 NoRoom c.from_residual-in_err-check_file.ensures.1 refl c.in_err-check_file.ensures.no_room

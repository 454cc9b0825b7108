use Rattle.std.proofs.Common.{subst}
use Rattle.std.proofs.lemmas.Result.{err_from_is_err_and}
use Rattle.record_fold.specs.declared.fault.FoldFault.{FoldFault}
use Rattle.log_records.specs.Holding.{made_in}
use Rattle.log_records.specs.Reading.{IsTakeFault}
use Rattle.log_records.proofs.Taking.{taken, misread, misfits}
use Rattle.log_records.proofs.batch.add_record.Goals as goal

pub returns-in_err-record-clause-fault : goal.returns-in_err-record-clause-fault
returns-in_err-record-clause-fault c =
    let p = err_from_is_err_and c.from_residual.result c.from_residual.ensures.1 in
    rw (p.1, p.2) (misread (made_in c.args.made) c.args.records.now c.args.at c.in_err-record.field-0.0 c.in_err-record.ensures.reading)

pub take-requires : goal.take-requires
take-requires c =
    let r = c.in_ok-record in
    let t = taken c.args.records.now c.args.at r.record r.behind (λ k. (c.type_inv.records k).fits) c.requires.batch r.ensures.reading in
    record { sound = c.requires.sound; allowed = t.allowed }

pub returns-in-Ok-clause-next : goal.returns-in-Ok-clause-next
returns-in-Ok-clause-next c = record { next = c.in_ok-record.record; reads = c.in_ok-record.ensures.reading; fits = c.in-Ok.ensures.taken.fits }

pub returns-in-Ok-clause-further : goal.returns-in-Ok-clause-further
returns-in-Ok-clause-further c =
    let r = c.in_ok-record in
    let t = taken c.args.records.now c.args.at r.record r.behind (λ k. (c.type_inv.records k).fits) c.requires.batch r.ensures.reading in
    (t.further, t.within)

pub returns-in-Ok-clause-sound : goal.returns-in-Ok-clause-sound
returns-in-Ok-clause-sound c = c.in-Ok.ensures.taken.sound

pub returns-in-Err-Misfit-clause-fault : goal.returns-in-Err-Misfit-clause-fault
returns-in-Err-Misfit-clause-fault c =
    let r = c.in_ok-record in
    let h = subst (λ (fault : FoldFault). IsTakeFault (made_in c.args.made) r.record fault) c.in-Err-Misfit.field-0-is c.in-Err-Misfit.ensures.fault in
    misfits (made_in c.args.made) c.args.records.now c.args.at r.record r.behind c.in-Err-Misfit.field c.misfit_at.result r.ensures.reading h.0 h.1 c.misfit_at.ensures.value

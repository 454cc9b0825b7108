use Rattle.std.proofs.Common.{Err, refl}
use Rattle.std.proofs.lemmas.Result.{err_from_is_err_and}
use Rattle.vol_disk.proofs.Moments.{quiet_then}
use Rattle.stream_store.specs.declared.logs.Current.{Current}
use Rattle.stream_store.proofs.Finding.{AreOpened, found_zero, found_one, first_is, second_fault, zero_told}
use Rattle.stream_store.specs.declared.fault.OpenFault.TheVariants.{NoRoom}
use Rattle.stream_store.proofs.Faults.{never_told}
use Rattle.stream_store.proofs.logs.open_current.Goals as goal

pub returns-in_err-zero-clause-fault : goal.returns-in_err-zero-clause-fault
returns-in_err-zero-clause-fault g c = λ told.
    let p = err_from_is_err_and c.from_residual.result c.from_residual.ensures.1 in
    rw (p.1, p.2) (zero_told (g.V.Vol.disk c.args.vol.now).seen c.in_err-zero.field-0.0 (c.in_err-zero.ensures.fault told))

pub returns-in_err-one-clause-fault : goal.returns-in_err-one-clause-fault
returns-in_err-one-clause-fault g c = λ told.
    let p = err_from_is_err_and c.from_residual-in_err-one.result c.from_residual-in_err-one.ensures.1 in
    let zero = c.in_ok-zero.ensures.settled told in
    rw (p.1, p.2)
    (second_fault c.in_ok-zero.zero zero.0 (g.V.Vol.disk c.args.vol.now) (g.V.Vol.disk c.open_log.new.vol) c.in_err-one.field-0.0 (c.open_log.ensures.quiet told) c.in_ok-zero.ensures.file zero.1 (c.in_err-one.ensures.fault told))

pub returns-in_err-one-clause-quiet : goal.returns-in_err-one-clause-quiet
returns-in_err-one-clause-quiet g c = λ told.
    quiet_then (g.V.Vol.disk c.args.vol.now) (g.V.Vol.disk c.open_log.new.vol) (g.V.Vol.disk c.open_log-2.new.vol) (c.open_log.ensures.quiet told) (c.open_log-2.ensures.quiet told)

pub returns-then-is_zero-clause-current : goal.returns-then-is_zero-clause-current
returns-then-is_zero-clause-current g c = λ told.
    let zero = c.in_ok-zero.ensures.settled told in
    let one = c.in_ok-one.ensures.settled told in
    let opened : AreOpened c.in_ok-zero.zero c.in_ok-one.one (g.V.Vol.disk c.args.vol.now) (g.V.Vol.disk c.open_log.new.vol) (g.V.Vol.disk c.open_log-2.new.vol) = record {
      still = c.open_log.ensures.quiet told;
      still_then = c.open_log-2.ensures.quiet told;
      file_zero = c.in_ok-zero.ensures.file;
      file_one = c.in_ok-one.ensures.file;
      zero_batches = zero.0;
      one_batches = one.0;
      settled_zero = zero.1;
      settled_one = one.1;
    } in
    let found : Current = record { file = 0; log = c.in_ok-zero.zero } in
    found_zero c.in_ok-zero.zero c.in_ok-one.one (g.V.Vol.disk c.args.vol.now) (g.V.Vol.disk c.open_log.new.vol) (g.V.Vol.disk c.open_log-2.new.vol) found opened
    (first_is c.in_ok-zero.zero c.in_ok-one.one c.generation.result c.generation-2.result c.is_first-is_zero.result _ c.generation.ensures.value c.generation-2.ensures.value c.is_first-is_zero.ensures.value c.if-is_zero.true) refl refl

pub returns-else-is_zero-clause-current : goal.returns-else-is_zero-clause-current
returns-else-is_zero-clause-current g c = λ told.
    let zero = c.in_ok-zero.ensures.settled told in
    let one = c.in_ok-one.ensures.settled told in
    let opened : AreOpened c.in_ok-zero.zero c.in_ok-one.one (g.V.Vol.disk c.args.vol.now) (g.V.Vol.disk c.open_log.new.vol) (g.V.Vol.disk c.open_log-2.new.vol) = record {
      still = c.open_log.ensures.quiet told;
      still_then = c.open_log-2.ensures.quiet told;
      file_zero = c.in_ok-zero.ensures.file;
      file_one = c.in_ok-one.ensures.file;
      zero_batches = zero.0;
      one_batches = one.0;
      settled_zero = zero.1;
      settled_one = one.1;
    } in
    let found : Current = record { file = 1; log = c.in_ok-one.one } in
    found_one c.in_ok-zero.zero c.in_ok-one.one (g.V.Vol.disk c.args.vol.now) (g.V.Vol.disk c.open_log.new.vol) (g.V.Vol.disk c.open_log-2.new.vol) found opened
    (first_is c.in_ok-zero.zero c.in_ok-one.one c.generation.result c.generation-2.result c.is_first-is_zero.result _ c.generation.ensures.value c.generation-2.ensures.value c.is_first-is_zero.ensures.value c.if-is_zero.false) refl refl

pub returns-in_err-zero-clause-no_room : goal.returns-in_err-zero-clause-no_room
returns-in_err-zero-clause-no_room g c =
    never_told c.from_residual.result (Err c.in_err-zero.field-0.0) c.in_err-zero.field-0.0 NoRoom c.from_residual.ensures.1 refl c.in_err-zero.ensures.no_room

pub returns-in_err-one-clause-no_room : goal.returns-in_err-one-clause-no_room
returns-in_err-one-clause-no_room g c =
    never_told c.from_residual-in_err-one.result (Err c.in_err-one.field-0.0) c.in_err-one.field-0.0 NoRoom c.from_residual-in_err-one.ensures.1 refl c.in_err-one.ensures.no_room

use Rattle.std.proofs.Common.{◌<◌, ◌^◌, ℕ, [], Option, length, refl, sym, subst, ◌∙◌, arith}
use Rattle.std.proofs.lemmas.Result.{err_from_is_err_and, IfOk-weaker, IfErr-weaker}
use Rattle.vol_disk.proofs.Moments.{quiet_then}
use Rattle.js_base.specs.Bytes.{Bytes}
use Rattle.gate_log.specs.Reading.{IsReadAt}
use Rattle.log_records.specs.Batches.{Begins}
use Rattle.durable_checks.specs.Storable.{IsStorable}
use Rattle.log_records.specs.Logged.{Logged, IsLogged}
use Rattle.log_records.proofs.Making.{vacant_storable}
use Rattle.log_records.specs.Holding.{made_in}
use Rattle.log_records.specs.Reading.{IsFurther, IsFirstFault, GivesIn, IsReadFault}
use Rattle.log_records.proofs.Reaching.{none_gives, first_begun, first_read_fault, first_is_own, gives_before, outside_fault, cause_told, fault_before}
use Rattle.log_records.proofs.log.read_log.Goals as goal

pub next_batch-requires : goal.next_batch-requires
next_batch-requires g c = record { gate = λ told. let settled = c.requires.settled told in ([], settled.0, record { settled = settled.1; here = refl }) }

pub returns-in_err-first-clause-fault : goal.returns-in_err-first-clause-fault
returns-in_err-first-clause-fault g c = λ told.
    let p = err_from_is_err_and c.from_residual.result c.from_residual.ensures.1 in
    rw (p.1, p.2) (outside_fault c.args.log.now (g.V.Vol.disk c.args.vol.now) c.in_err-first.field-0.0 (c.in_err-first.ensures.only told))

pub returns-in_default-clause-gives : goal.returns-in_default-clause-gives
returns-in_default-clause-gives g c = λ told.
    let was = g.V.Vol.disk c.args.vol.now in
    none_gives c.args.log.now was c.in_ok-read.read (subst (λ (o : Option (Bytes × ℕ)). IsReadAt c.args.log.now 20 was o) c.in_default.is (c.in_ok-first.ensures.found told)) (c.in_ok-read.ensures.value ∙ c.in_ok-vacant.ensures.value) c.in_ok-read.ensures.last

pub returns-in_default-clause-logged : goal.returns-in_default-clause-logged
returns-in_default-clause-logged g c = subst IsLogged (sym c.in_ok-read.ensures.value) c.in_ok-vacant.ensures.sound.logged

pub returns-in_default-clause-storable : goal.returns-in_default-clause-storable
returns-in_default-clause-storable g c =
    subst (λ (x : Logged). IsStorable x.durable) (sym (c.in_ok-read.ensures.value ∙ c.in_ok-vacant.ensures.value)) (vacant_storable 0 (omega arith))

pub add_first-requires : goal.add_first-requires
add_first-requires g c =
    let further = subst (λ (o : Option (Bytes × ℕ)). IsFurther 20 o) c.in-Some.is c.in_ok-first.ensures.further in
    record { batch = subst (λ (l : Bytes). length l < 2 ^ 32) (sym c.as_slice.ensures) further.0 }

pub returns-in_err-begun-clause-fault : goal.returns-in_err-begun-clause-fault
returns-in_err-begun-clause-fault g c = λ told.
    let was = g.V.Vol.disk c.args.vol.now in
    let p = err_from_is_err_and c.from_residual-in_err-begun.result c.from_residual-in_err-begun.ensures.1 in
    let read = subst (λ (o : Option (Bytes × ℕ)). IsReadAt c.args.log.now 20 was o) c.in-Some.is (c.in_ok-first.ensures.found told) in
    let fault = subst (λ (l : Bytes). IsFirstFault l c.in_err-begun.field-0.0) c.as_slice.ensures c.in_err-begun.ensures.fault in
    rw (p.1, p.2) (first_read_fault c.args.log.now c.in-Some.first c.in-Some.gate was c.in_err-begun.field-0.0 read fault)

pub returns-in_err-begun-clause-cause : goal.returns-in_err-begun-clause-cause
returns-in_err-begun-clause-cause g c = record {
  later = c.next_batch.ensures.cause.later;
  failed = λ is.
      let p = err_from_is_err_and c.from_residual-in_err-begun.result c.from_residual-in_err-begun.ensures.1 in
      absurd (first_is_own c.as_slice.result.now c.in_err-begun.field-0.0 c.in_err-begun.ensures.fault (cause_told c.from_residual-in_err-begun.result p.0 c.in_err-begun.field-0.0 p.1 p.2 is));
}

pub read_later-requires : goal.read_later-requires
read_later-requires g c = record {
  sound = c.in_ok-begun.ensures.sound;
  storable = c.in_ok-begun.ensures.storable;
  begun = λ told.
      let was = g.V.Vol.disk c.args.vol.now in
      let mid = g.V.Vol.disk c.next_batch.new.vol in
      let settled = c.requires.settled told in
      let read = subst (λ (o : Option (Bytes × ℕ)). IsReadAt c.args.log.now 20 was o) c.in-Some.is (c.in_ok-first.ensures.found told) in
      let begins = subst (λ (l : Bytes). Begins l (made_in c.in_ok-begun.begun)) c.as_slice.ensures c.in_ok-begun.ensures.begun in
      first_begun c.args.log.now c.in-Some.first c.in-Some.gate (made_in c.in_ok-begun.begun) was mid settled.0 settled.1 read (c.next_batch.ensures.quiet told) begins;
}

pub returns-clause-gives : goal.returns-clause-gives
returns-clause-gives g c = λ told.
    let was = g.V.Vol.disk c.args.vol.now in
    let mid = g.V.Vol.disk c.next_batch.new.vol in
    IfOk-weaker c.read_later.result (GivesIn c.args.log.now mid) (GivesIn c.args.log.now was) (λ d h. gives_before c.args.log.now was mid d (c.next_batch.ensures.quiet told) h) (c.read_later.ensures.gives told)

pub returns-clause-fault : goal.returns-clause-fault
returns-clause-fault g c = λ told.
    let was = g.V.Vol.disk c.args.vol.now in
    let mid = g.V.Vol.disk c.next_batch.new.vol in
    IfErr-weaker c.read_later.result (IsReadFault c.args.log.now mid) (IsReadFault c.args.log.now was) (λ fault h. fault_before c.args.log.now was mid fault (c.next_batch.ensures.quiet told) h) (c.read_later.ensures.fault told)

pub returns-clause-quiet : goal.returns-clause-quiet
returns-clause-quiet g c = λ told.
    quiet_then (g.V.Vol.disk c.args.vol.now) (g.V.Vol.disk c.next_batch.new.vol) (g.V.Vol.disk c.read_later.new.vol) (c.next_batch.ensures.quiet told) (c.read_later.ensures.quiet told)

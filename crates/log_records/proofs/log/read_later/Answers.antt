use Rattle.std.proofs.Common.{◌<◌, ◌^◌, ℕ, ◌∷◌, Option, length, sym, subst, arith}
use Rattle.std.proofs.lemmas.Result.{err_from_is_err_and}
use Rattle.vol_disk.proofs.Moments.{quiet, quiet_then}
use Rattle.js_base.specs.Bytes.{Bytes}
use Rattle.gate_log.specs.Reading.{IsReadAt}
use Rattle.durable_checks.specs.Storable.{IsStorable}
use Rattle.log_records.specs.Logged.{Logged, IsLogged}
use Rattle.log_records.specs.Holding.{made_in}
use Rattle.log_records.specs.Reading.{IsAddedAt, IsFurther, IsLaterFault}
use Rattle.log_records.proofs.Reaching.{Reaches, reaches_first, reaches_next, end_gives, gives_before, outside_fault, cause_told, later_read_fault, later_is_own}
use Rattle.log_records.proofs.log.read_later.Goals as goal

pub loop-made-init : goal.loop-made-init
loop-made-init g c =
    let disk = g.V.Vol.disk c.args.vol.now in
    record {
      quiet = λ told. quiet disk (g.met.V.Vol.clocked c.args.vol.now);
      reaches = λ told. reaches_first c.args.log.now c.args.first_end (made_in c.args.begun) disk (c.requires.begun told);
      sound = c.requires.sound;
      storable = c.requires.storable;
      faults = omega arith;
      refusals = omega arith;
      moments = omega arith;
    }

pub next_batch-requires : goal.next_batch-requires
next_batch-requires g c = record {
  gate = λ told. let r = c.loop-made.invariant.reaches told in (r.first ∷ r.read.front, r.read.rest, r.read.gate_is);
}

pub returns-in_err-records-clause-fault : goal.returns-in_err-records-clause-fault
returns-in_err-records-clause-fault g c = λ told.
    let p = err_from_is_err_and c.from_residual.result c.from_residual.ensures.1 in
    rw (p.1, p.2) (outside_fault c.args.log.now (g.V.Vol.disk c.args.vol.now) c.in_err-records.field-0.0 (c.in_err-records.ensures.only told))

pub add_later-requires : goal.add_later-requires
add_later-requires g c =
    let further = subst (λ (o : Option (Bytes × ℕ)). IsFurther c.loop-made.gate o) c.in-Some.is c.in_ok-records.ensures.further in
    record { batch = subst (λ (l : Bytes). length l < 2 ^ 32) (sym c.as_slice.ensures) further.0; sound = c.loop-made.invariant.sound; storable = c.loop-made.invariant.storable }

pub returns-in_err-added-clause-fault : goal.returns-in_err-added-clause-fault
returns-in_err-added-clause-fault g c = λ told.
    let was = g.V.Vol.disk c.args.vol.now in
    let mid = g.V.Vol.disk c.loop-made.vol in
    let p = err_from_is_err_and c.from_residual-in_err-added.result c.from_residual-in_err-added.ensures.1 in
    let read = subst (λ (o : Option (Bytes × ℕ)). IsReadAt c.args.log.now c.loop-made.gate mid o) c.in-Some.is (c.in_ok-records.ensures.found told) in
    let fault = subst (λ (l : Bytes). IsLaterFault c.loop-made.gate (made_in c.loop-made.made) l c.in_err-added.field-0.0) c.as_slice.ensures c.in_err-added.ensures.fault in
    rw (p.1, p.2)
    (later_read_fault c.args.log.now c.loop-made.gate c.in-Some.next (made_in c.loop-made.made) c.loop-made.last c.in-Some.records was mid c.in_err-added.field-0.0 (c.loop-made.invariant.quiet told)
    (c.loop-made.invariant.reaches told) read fault)

pub returns-in_err-added-clause-cause : goal.returns-in_err-added-clause-cause
returns-in_err-added-clause-cause g c = record {
  later = omega (arith, c.loop-made.invariant.faults, c.next_batch.ensures.cause.later);
  failed = λ is.
      let p = err_from_is_err_and c.from_residual-in_err-added.result c.from_residual-in_err-added.ensures.1 in
      absurd (later_is_own c.loop-made.gate (made_in c.loop-made.made) c.as_slice.result.now c.in_err-added.field-0.0 c.in_err-added.ensures.fault (cause_told c.from_residual-in_err-added.result p.0 c.in_err-added.field-0.0 p.1 p.2 is));
}

pub loop-made-smaller : goal.loop-made-smaller
loop-made-smaller g c =
    let further = subst (λ (o : Option (Bytes × ℕ)). IsFurther c.loop-made.gate o) c.in-Some.is c.in_ok-records.ensures.further in
    omega (arith, further.1, further.2)

pub loop-made-preserved-in_ok-added : goal.loop-made-preserved-in_ok-added
loop-made-preserved-in_ok-added g c =
    let before = c.loop-made.invariant in
    let was = g.V.Vol.disk c.args.vol.now in
    let mid = g.V.Vol.disk c.loop-made.vol in
    let now = g.V.Vol.disk c.next_batch.new.vol in
    let added = subst (λ (l : Bytes). IsAddedAt c.loop-made.gate (made_in c.loop-made.made) l (made_in c.in_ok-added.added) c.in_ok-added.later) c.as_slice.ensures c.in_ok-added.ensures.added in
    record {
      quiet = λ told. quiet_then was mid now (before.quiet told) (c.next_batch.ensures.quiet told);
      reaches = λ told.
          let read = subst (λ (o : Option (Bytes × ℕ)). IsReadAt c.args.log.now c.loop-made.gate mid o) c.in-Some.is (c.in_ok-records.ensures.found told) in
          subst (λ (last : ℕ). Reaches c.args.log.now c.in-Some.next (made_in c.in_ok-added.added) last now) (sym c.unwrap_or-last.ensures)
          (reaches_next c.args.log.now c.loop-made.gate c.in-Some.next (made_in c.loop-made.made) (made_in c.in_ok-added.added) c.loop-made.last c.in-Some.records c.in_ok-added.later mid now (before.reaches told) read (c.next_batch.ensures.quiet told) added);
      sound = c.in_ok-added.ensures.sound;
      storable = added.adds.storable;
      faults = omega (arith, before.faults, c.next_batch.ensures.cause.later);
      refusals = omega (arith, before.refusals, c.next_batch.ensures.refusals);
      moments = omega (arith, before.moments, c.next_batch.ensures.later);
    }

pub loop-made-preserved : goal.loop-made-preserved
loop-made-preserved g c =
    let before = c.loop-made.invariant in
    let was = g.V.Vol.disk c.args.vol.now in
    let mid = g.V.Vol.disk c.loop-made.vol in
    let now = g.V.Vol.disk c.next_batch.new.vol in
    let added = subst (λ (l : Bytes). IsAddedAt c.loop-made.gate (made_in c.loop-made.made) l (made_in c.in_ok-added.added) c.in_ok-added.later) c.as_slice.ensures c.in_ok-added.ensures.added in
    record {
      quiet = λ told. quiet_then was mid now (before.quiet told) (c.next_batch.ensures.quiet told);
      reaches = λ told.
          let read = subst (λ (o : Option (Bytes × ℕ)). IsReadAt c.args.log.now c.loop-made.gate mid o) c.in-Some.is (c.in_ok-records.ensures.found told) in
          subst (λ (last : ℕ). Reaches c.args.log.now c.in-Some.next (made_in c.in_ok-added.added) last now) (sym c.unwrap_or-last.ensures)
          (reaches_next c.args.log.now c.loop-made.gate c.in-Some.next (made_in c.loop-made.made) (made_in c.in_ok-added.added) c.loop-made.last c.in-Some.records c.in_ok-added.later mid now (before.reaches told) read (c.next_batch.ensures.quiet told) added);
      sound = c.in_ok-added.ensures.sound;
      storable = added.adds.storable;
      faults = omega (arith, before.faults, c.next_batch.ensures.cause.later);
      refusals = omega (arith, before.refusals, c.next_batch.ensures.refusals);
      moments = omega (arith, before.moments, c.next_batch.ensures.later);
    }

pub returns-clause-gives : goal.returns-clause-gives
returns-clause-gives g c = λ told.
    let was = g.V.Vol.disk c.args.vol.now in
    let mid = g.V.Vol.disk c.loop-made.vol in
    let read = subst (λ (o : Option (Bytes × ℕ)). IsReadAt c.args.log.now c.loop-made.gate mid o) c.in_default.is (c.in_ok-records.ensures.found told) in
    gives_before c.args.log.now was mid c.in_ok-read.read (c.loop-made.invariant.quiet told)
    (end_gives c.args.log.now c.loop-made.gate (made_in c.loop-made.made) c.loop-made.last mid c.in_ok-read.read (c.loop-made.invariant.reaches told) read c.in_ok-read.ensures.value c.in_ok-read.ensures.last)

pub returns-in_err-read-clause-fault : goal.returns-in_err-read-clause-fault
returns-in_err-read-clause-fault g c = λ told. let p = err_from_is_err_and c.from_residual-in_err-read.result c.from_residual-in_err-read.ensures.1 in rw (p.1, p.2) tt

pub returns-clause-logged : goal.returns-clause-logged
returns-clause-logged g c = subst IsLogged (sym c.in_ok-read.ensures.value) c.loop-made.invariant.sound.logged

pub returns-clause-storable : goal.returns-clause-storable
returns-clause-storable g c = subst (λ (x : Logged). IsStorable x.durable) (sym c.in_ok-read.ensures.value) c.loop-made.invariant.storable

pub returns-in_err-records-clause-quiet : goal.returns-in_err-records-clause-quiet
returns-in_err-records-clause-quiet g c = λ told. quiet_then (g.V.Vol.disk c.args.vol.now) (g.V.Vol.disk c.loop-made.vol) (g.V.Vol.disk c.next_batch.new.vol) (c.loop-made.invariant.quiet told) (c.next_batch.ensures.quiet told)

pub returns-in_err-added-clause-quiet : goal.returns-in_err-added-clause-quiet
returns-in_err-added-clause-quiet g c = λ told. quiet_then (g.V.Vol.disk c.args.vol.now) (g.V.Vol.disk c.loop-made.vol) (g.V.Vol.disk c.next_batch.new.vol) (c.loop-made.invariant.quiet told) (c.next_batch.ensures.quiet told)

pub returns-in_err-read-clause-quiet : goal.returns-in_err-read-clause-quiet
returns-in_err-read-clause-quiet g c = λ told. quiet_then (g.V.Vol.disk c.args.vol.now) (g.V.Vol.disk c.loop-made.vol) (g.V.Vol.disk c.next_batch.new.vol) (c.loop-made.invariant.quiet told) (c.next_batch.ensures.quiet told)

pub returns-clause-quiet : goal.returns-clause-quiet
returns-clause-quiet g c = λ told. quiet_then (g.V.Vol.disk c.args.vol.now) (g.V.Vol.disk c.loop-made.vol) (g.V.Vol.disk c.next_batch.new.vol) (c.loop-made.invariant.quiet told) (c.next_batch.ensures.quiet told)

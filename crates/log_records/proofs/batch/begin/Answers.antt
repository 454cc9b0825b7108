use Rattle.std.proofs.Common.{Option, inr, refl, sym, ap, subst, ◌∙◌}
use Rattle.std.specs.Prelude.{IfSome, is_some}
use Rattle.std.proofs.lemmas.Bool.{true≢false}
use Rattle.std.proofs.lemmas.Result.{err_from_is_err_and}
use Rattle.log_records.specs.Beginnings.{CanBegin, logged_in}
use Rattle.log_records.specs.Holding.{IsMadeOf}
use Rattle.log_records.specs.declared.made.Made.{Made}
use Rattle.log_records.proofs.Taking.{start_fault, snapshot_allowed}
use Rattle.log_records.proofs.batch.begin.Goals as goal

pub returns-in_err-snapshot-clause-fault : goal.returns-in_err-snapshot-clause-fault
returns-in_err-snapshot-clause-fault c =
    let p = err_from_is_err_and c.from_residual.result c.from_residual.ensures.1 in
    rw (p.1, p.2) (start_fault c.args.records.now c.in_err-snapshot.field-0.0 c.in_err-snapshot.ensures.reading)

pub made_of-requires : goal.made_of-requires
made_of-requires c = record { allowed = snapshot_allowed c.args.records.now c.in_ok-snapshot.snapshot (λ k. (c.type_inv.records k).fits) c.requires.batch c.in_ok-snapshot.ensures.reading }

pub returns-in_err-found-clause-fault : goal.returns-in_err-found-clause-fault
returns-in_err-found-clause-fault c = let p = err_from_is_err_and c.from_residual-in_err-found.result c.from_residual-in_err-found.ensures.1 in rw (p.1, p.2) tt

pub returns-in-Some-clause-begun : goal.returns-in-Some-clause-begun
returns-in-Some-clause-begun c =
    let s = c.in_ok-snapshot.snapshot in
    let made = subst (λ (o : Option Made). IfSome o (IsMadeOf (logged_in s))) c.in-Some.is c.in_ok-found.ensures.value in
    record {
      snapshot = s;
      reads = c.in_ok-snapshot.ensures.reading;
      begun_is = made.is;
      can = subst CanBegin (sym made.is) (c.in_ok-found.ensures.can.0 (ap is_some c.in-Some.is));
    }

pub returns-in-Some-clause-sound : goal.returns-in-Some-clause-sound
returns-in-Some-clause-sound c = (subst (λ (o : Option Made). IfSome o (IsMadeOf (logged_in c.in_ok-snapshot.snapshot))) c.in-Some.is c.in_ok-found.ensures.value).sound

pub returns-in-Some-clause-storable : goal.returns-in-Some-clause-storable
returns-in-Some-clause-storable c =
    let made = subst (λ (o : Option Made). IfSome o (IsMadeOf (logged_in c.in_ok-snapshot.snapshot))) c.in-Some.is c.in_ok-found.ensures.value in
    (subst CanBegin (sym made.is) (c.in_ok-found.ensures.can.0 (ap is_some c.in-Some.is))).storable

pub returns-in-None-clause-fault : goal.returns-in-None-clause-fault
returns-in-None-clause-fault c =
    inr (
      record {
        snapshot = c.in_ok-snapshot.snapshot;
        reads = c.in_ok-snapshot.ensures.reading;
        bad = λ can. true≢false (sym (c.in_ok-found.ensures.can.1 can) ∙ ap is_some c.in-None.is);
      },
      refl,
    )

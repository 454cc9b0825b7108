use Rattle.std.proofs.Common.{◌^◌, Option, IsTrue, refl, sym, subst}
use Rattle.std.specs.Prelude.{◌↔◌, IfOk, IfSome, IsSome}
use Rattle.std.proofs.lemmas.Bool.{ltb-true}
use Rattle.state_snapshot.specs.Allowed.{is_body_if_any}
use Rattle.state_snapshot.specs.declared.snapshot.SnapshotBody.{SnapshotBody}
use Rattle.log_records.specs.Beginnings.{CanBegin, logged_of}
use Rattle.log_records.specs.Holding.{IsMadeOf}
use Rattle.log_records.proofs.Begun.{vacant_can}
use Rattle.log_records.proofs.beginning.made_from.Goals as goal

pub live_made-requires : goal.live_made-requires
live_made-requires c =
    record { allowed = subst (λ (o : Option SnapshotBody). IsTrue (is_body_if_any o)) c.in-Some.is c.requires.allowed }

pub returns-in-Some : goal.returns-in-Some
returns-in-Some c =
    let i = c.args.incarnation in
    record {
      value = subst (λ (o : Option SnapshotBody). IfOk c.live_made.result (λ found. IfSome found (IsMadeOf (logged_of i o)))) (sym c.in-Some.is) c.live_made.ensures.value;
      can = subst (λ (o : Option SnapshotBody). IfOk c.live_made.result (λ found. IsSome found ↔ CanBegin (logged_of i o))) (sym c.in-Some.is) c.live_made.ensures.can;
    }

pub beginning-requires : goal.beginning-requires
beginning-requires c = record { number = ltb-true c.args.incarnation (2 ^ 62) c.requires.number }

pub returns-in_ok-beginning-in-None : goal.returns-in_ok-beginning-in-None
returns-in_ok-beginning-in-None c =
    let i = c.args.incarnation in
    record {
      value = subst (λ (o : Option SnapshotBody). IsMadeOf (logged_of i o) c.in_ok-beginning-in-None.field-0) (sym c.in-None.is) (record { is = c.in_ok-beginning-in-None.ensures.value; sound = c.in_ok-beginning-in-None.ensures.sound });
      can = (λ e. subst (λ (o : Option SnapshotBody). CanBegin (logged_of i o)) (sym c.in-None.is) (vacant_can i c.requires.number), λ k. refl);
    }

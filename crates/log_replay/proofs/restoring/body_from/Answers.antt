use Rattle.std.proofs.Common.{Option, Some, sym, ap, subst, ◌∙◌}
use Rattle.std.specs.Prelude.{IfSome}
use Rattle.effects.specs.declared.durable.Body.{Body}
use Rattle.durable_checks.specs.Storable.{IsFormedOf, IsStorable}
use Rattle.log_replay.specs.Restoring.{AreIdsInTime}
use Rattle.log_replay.proofs.restoring.body_from.Goals as goal

pub of-requires : goal.of-requires
of-requires c =
    let i = c.requires.storable.0 in
    record {
      formed = subst IsFormedOf c.in-Some.is c.requires.formed;
      storable = (i, subst (λ (o : Option Body). IsStorable (record { incarnation = i; body = o })) c.in-Some.is c.requires.storable.1);
      in_time = subst (λ (o : Option Body). IfSome o AreIdsInTime) c.in-Some.is c.requires.in_time;
    }

pub returns-in_ok-of-in-Some : goal.returns-in_ok-of-in-Some
returns-in_ok-of-in-Some c = record { value = ap Some c.in_ok-of-in-Some.ensures.value ∙ sym c.in-Some.is }

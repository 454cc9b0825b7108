use Rattle.std.proofs.Common.{Option, IsTrue, sym, subst}
use Rattle.std.specs.Prelude.{◌↔◌, IfOk}
use Rattle.effects.specs.declared.durable.Body.{Body}
use Rattle.durable_checks.specs.Storable.{IsStorable}
use Rattle.durable_checks.proofs.storable.is_storable.Goals as goal

pub returns-in-Some : goal.returns-in-Some
returns-in-Some c =
    let i = c.args.durable.now.incarnation in
    record { value = subst (λ (o : Option Body). IfOk c.is_storable_body.result (λ storable. IsTrue storable ↔ IsStorable (record { incarnation = i; body = o }))) (sym c.in-Some.is) c.is_storable_body.ensures.value }

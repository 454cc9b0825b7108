use Rattle.std.proofs.Common.{List, Option, IsTrue, sym, subst}
use Rattle.std.specs.Prelude.{◌↔◌, IfSome}
use Rattle.js_model.specs.declared.stream.Id.{Id}
use Rattle.effects.specs.declared.durable.Body.{Body}
use Rattle.effects.specs.Restorable.{Rises}
use Rattle.log_replay.specs.Restoring.{AreIdsInTime}
use Rattle.log_replay.proofs.replay.Replay.goes_on.Goals as goal

pub returns-in-Some : goal.returns-in-Some
returns-in-Some c =
    let moment = c.in-Some.body.moment in
    let rises = subst (λ (ids : List Id). IsTrue c.rise.result ↔ Rises (λ i. i.at) 0 moment ids) c.as_slice.ensures c.rise.ensures.value in
    record { value = subst (λ (o : Option Body). IsTrue c.rise.result ↔ IfSome o AreIdsInTime) (sym c.in-Some.is) rises }

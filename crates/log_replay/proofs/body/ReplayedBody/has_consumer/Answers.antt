use Rattle.std.proofs.Common.{List, subst}
use Rattle.std.specs.Prelude.{⊤}
use Rattle.std.specs.Bool.{OnTrue}
use Rattle.js_model.specs.declared.consumer.Consumer.{Consumer}
use Rattle.log_replay.specs.Taken.{IsThere}
use Rattle.log_replay.proofs.body.ReplayedBody.has_consumer.Goals as goal

pub returns : goal.returns
returns c = record { there = rw (← c.self.view_is) (subst (λ (cs : List Consumer). OnTrue c.is_there.result (IsThere cs c.args.name.now (λ d. ⊤))) c.as_slice.ensures.value c.is_there.ensures.there) }
